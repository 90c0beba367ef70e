use Rattle.std.proofs.Common.{sym, refl}
use Rattle.segments.proofs.Rooms.{free_told, full_told}
use Rattle.segments.proofs.room.has_free.Goals as goal

pub returns-in-Some : goal.returns-in-Some
returns-in-Some c = sym (free_told c.args.numbers.now _ c.in-Some.ensures.next.free)

pub returns-in-None : goal.returns-in-None
returns-in-None c = sym (full_told c.args.numbers.now (c.in-None.ensures.full refl))
