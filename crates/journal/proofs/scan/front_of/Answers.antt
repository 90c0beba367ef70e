use Rattle.std.proofs.Common.{inl, inr, refl, arith}
use Rattle.journal.proofs.Scanning.{wrong_length, ends_early}
use Rattle.journal.proofs.scan.front_of.Goals as goal
use Rattle.journal.proofs.scan.front_of.Goals.{then-len-eq0-via-then-len-eq0, then-len-eq0-via-else-len-eq0+then-left-from}

pub returns-then-len-eq0-clause-damaged : goal.returns-then-len-eq0-clause-damaged
returns-then-len-eq0-clause-damaged c = (
  refl,
  wrong_length c.args.bytes.now c.args.left c.from_le_bytes-len.result c.in-len5-up.len_at_least c.if-gate.false c.from_le_bytes-len.ensures
      (elim c.then-len-eq0.branch [
        | then-len-eq0-via-then-len-eq0 w ↦ inl (omega arith)
        | then-len-eq0-via-else-len-eq0+then-left-from w ↦ inr (omega (arith, w.if-left-from.true))
      ]),
)

pub returns-then-left-lt5-clause-damaged : goal.returns-then-left-lt5-clause-damaged
returns-then-left-lt5-clause-damaged c = (refl, ends_early c.args.bytes.now c.args.left (omega arith) (omega arith) (omega arith))
