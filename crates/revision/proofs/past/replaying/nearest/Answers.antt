use Rattle.std.proofs.Common.{◌-◌, arith}
use Rattle.revision.proofs.KeptDocuments.{kept-at}
use Rattle.revision.proofs.past.replaying.nearest.Goals as goal

pub returns-then-one-revision-clause-kept : goal.returns-then-one-revision-clause-kept
returns-then-one-revision-clause-kept c =
    λ count units deltas are.
    kept-at c.args.start count units deltas c.args.kept.now (c.loop-left.left - 1) c.index-kept-left.result are (omega (arith, c.loop-left.invariant, c.loop-left-test.true)) c.index-kept-left.is
