use Rattle.std.proofs.Common.{◌≡◌, ℕ, take}
use Rattle.recovery.specs.Marks.{greatest_marked}
use Rattle.recovery.proofs.freeing.first_of.Given as goal

abbrev pub invariant-loop-mark : goal.invariant-loop-mark
invariant-loop-mark l = (document : ℕ) → greatest_marked l.segment document (take l.mark-index l.marks) ≡ 0
