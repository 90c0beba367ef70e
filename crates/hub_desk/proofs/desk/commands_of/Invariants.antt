use Rattle.std.proofs.Common.{◌≡◌, map, take}
use Rattle.std.specs.Borrow.{Bor}
use Rattle.revision.specs.Command.{Command}
use Rattle.session.specs.Ahead.{commands_of}
use Rattle.hub_desk.proofs.desk.commands_of.Given as goal

abbrev pub invariant-loop-one : goal.invariant-loop-one
invariant-loop-one l = map (λ (c : Bor Command). c.now) l.commands.items ≡ commands_of (take l.one-index l.sent)
