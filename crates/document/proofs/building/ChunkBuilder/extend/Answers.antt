use Rattle.std.proofs.Common.{length, arith, ap}
use Rattle.document.specs.Runs.{units_of_runs}
use Rattle.document.proofs.building.ChunkBuilder.extend.Goals as goal

pub make_room-requires-clause-bound : goal.make_room-requires-clause-bound
make_room-requires-clause-bound c = omega (arith, ap (λ l. length (units_of_runs l)) c.self.view_is, c.requires.bound)
