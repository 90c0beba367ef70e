use Rattle.segments.proofs.Rooms.{opened_differs}
use Rattle.segments.proofs.laws.opened_differs.Goals as goal

pub returns : goal.returns
returns c = opened_differs
