use Rattle.std.proofs.Common.{◌/◌, length, sym, ap, subst, arith}
use Rattle.compose.specs.Many.{lengths_of}
use Rattle.milestone.specs.Halves.{IsPart, ComposesPart}
use Rattle.milestone.proofs.InTurn.{part-take, part-drop}
use Rattle.milestone.proofs.ByHalves.{both-compose, both-lengths, both-memory}
use Rattle.milestone.proofs.part.+one_for.Goals as goal

pub one_for-requires : goal.one_for-requires
one_for-requires t c = (
  omega (arith, c.decreases, c.split_at.ensures.front_len, c.if-deltas-le-FEW.false),
  subst IsPart (sym c.split_at.ensures.front) (part-take (length c.args.deltas.now / 2) c.args.deltas.now c.requires),
)

pub one_for-requires-2 : goal.one_for-requires-2
one_for-requires-2 t c = (
  omega (arith, c.decreases, c.split_at.ensures.back_len, c.if-deltas-le-FEW.false),
  subst IsPart (sym c.split_at.ensures.back) (part-drop (length c.args.deltas.now / 2) c.args.deltas.now c.requires),
)

pub returns-in-Ok-clause-composes : goal.returns-in-Ok-clause-composes
returns-in-Ok-clause-composes t c =
    both-compose (length c.args.deltas.now / 2) c.args.deltas.now c.in_ok-first.first c.in_ok-second.second
    (subst (ComposesPart c.in_ok-first.first) c.split_at.ensures.front c.in_ok-first.ensures.composes)
    (subst (ComposesPart c.in_ok-second.second) c.split_at.ensures.back c.in_ok-second.ensures.composes) c.in-Ok.one c.in-Ok.ensures.one

pub returns-in-Ok-clause-lengths : goal.returns-in-Ok-clause-lengths
returns-in-Ok-clause-lengths t c =
    both-lengths (length c.args.deltas.now / 2) c.args.deltas.now c.in_ok-first.first c.in_ok-second.second c.in-Ok.one
    (omega (arith, c.in_ok-first.ensures.lengths, ap lengths_of c.split_at.ensures.front))
    (omega (arith, c.in_ok-second.ensures.lengths, ap lengths_of c.split_at.ensures.back)) c.in-Ok.ensures.one

pub as_alloc_error-requires : goal.as_alloc_error-requires
as_alloc_error-requires t c =
    both-memory (length c.args.deltas.now / 2) c.args.deltas.now c.in_ok-first.first c.in_ok-second.second
    (subst (ComposesPart c.in_ok-first.first) c.split_at.ensures.front c.in_ok-first.ensures.composes)
    (subst (ComposesPart c.in_ok-second.second) c.split_at.ensures.back c.in_ok-second.ensures.composes) c.in-Err.refusal c.requires
    (omega (arith, c.in_ok-first.ensures.lengths, ap lengths_of c.split_at.ensures.front))
    (omega (arith, c.in_ok-second.ensures.lengths, ap lengths_of c.split_at.ensures.back)) c.in-Err.ensures.only
