use Rattle.std.proofs.Common.{true}
use Rattle.turns.proofs.Writing.{upkeep_done}
use Rattle.turns.proofs.upkeep.retire_one.Goals as goal

pub returns-in-Ok : goal.returns-in-Ok
returns-in-Ok g c =
    let e = c.retire.ensures in
    upkeep_done tt true c.args.flusher.now c.retire.new.self e.keeps c.in-Ok.ensures.faults.fails
