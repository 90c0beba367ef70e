use Rattle.std.proofs.Common.{◌≡◌, drop}
use Rattle.recovery.specs.steps.Reading.{all_edit}
use Rattle.recovery.proofs.reading.entries.all_edit.Given as goal

-- those that are left decide
abbrev pub invariant-loop-taken : goal.invariant-loop-taken
invariant-loop-taken l = all_edit (drop l.taken-index l.entries) ≡ all_edit l.entries
