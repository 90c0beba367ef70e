use Rattle.std.proofs.Common.{take}
use Rattle.recovery.proofs.Gathered.{IsTable}
use Rattle.recovery.proofs.freeing.greatest_revisions.Given as goal

abbrev pub invariant-loop-mark : goal.invariant-loop-mark
invariant-loop-mark l = IsTable l.segment l.count (take l.mark-index l.marks) l.marked.items
