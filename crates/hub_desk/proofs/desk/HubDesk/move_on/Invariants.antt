use Rattle.std.proofs.Common.{◌≡◌, ◌≤◌, length}
use Rattle.hub_desk.proofs.desk.HubDesk.move_on.Given as goal

-- the desk is unchanged, whatever was moved on so far
abbrev pub invariant-loop-left : goal.invariant-loop-left
invariant-loop-left g l = (l.left ≤ length l.commands) × (l.self ≡ l.fn.self)

abbrev pub decreases-loop-left : goal.decreases-loop-left
decreases-loop-left g l = l.left
