use Rattle.std.proofs.Common.{take}
use Rattle.attributes.specs.Table.{AllBefore}
use Rattle.session.proofs.subscriptions.Subscriptions.place.Given as goal

-- the names so far stand before the name
abbrev pub invariant-loop-i : goal.invariant-loop-i
invariant-loop-i l = AllBefore l.name (take l.i l.self)
