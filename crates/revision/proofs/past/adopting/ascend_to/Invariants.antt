use Rattle.std.proofs.Common.{◌≡◌, drop}
use Rattle.revision.specs.Window.{ascend}
use Rattle.revision.proofs.past.adopting.ascend_to.Given as goal

-- those that are left decide
abbrev pub invariant-loop-revision : goal.invariant-loop-revision
invariant-loop-revision l = ascend l.low l.last (drop l.revision-index l.revisions) ≡ ascend 0 l.last l.revisions
