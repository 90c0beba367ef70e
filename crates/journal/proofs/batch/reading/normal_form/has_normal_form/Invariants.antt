use Rattle.std.proofs.Common.{◌≡◌, drop}
use Rattle.journal.specs.steps.DeltaReading.{is_normal}
use Rattle.journal.proofs.batch.reading.normal_form.has_normal_form.Given as goal

-- it rests on the operations that are left
abbrev pub invariant-loop-i : goal.invariant-loop-i
invariant-loop-i l = is_normal l.ops ≡ is_normal (drop l.i l.ops)
