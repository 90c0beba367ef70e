use Rattle.segments.proofs.Rooms.{full_ring}
use Rattle.segments.proofs.laws.full_ring.Goals as goal

pub returns : goal.returns
returns c = full_ring
