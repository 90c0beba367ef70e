use Rattle.std.proofs.Common.{◌≡◌, false, take}
use Rattle.recovery.specs.steps.Group.{is_in}
use Rattle.recovery.proofs.composed.has_member.Given as goal

abbrev pub invariant-loop-member : goal.invariant-loop-member
invariant-loop-member l = is_in (take l.member-index l.members) l.document ≡ false
