use Rattle.std.proofs.Common.{drop}
use Rattle.revision.specs.Sources.{EqualBut}
use Rattle.revision.proofs.past.source_table.align_all.Given as goal

-- the same but for those that are left
abbrev pub invariant-loop-one : goal.invariant-loop-one
invariant-loop-one l = EqualBut (drop l.one-index l.changed) l.accepted l.ahead
