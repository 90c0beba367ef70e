use Rattle.std.proofs.Common.{◌≡◌, drop}
use Rattle.recovery.specs.steps.Reading.{all_lists_edit}
use Rattle.recovery.proofs.reading.entries.lists_edit.Given as goal

-- those that are left decide
abbrev pub invariant-loop-list : goal.invariant-loop-list
invariant-loop-list l = all_lists_edit (drop l.list-index l.lists) ≡ all_lists_edit l.lists
