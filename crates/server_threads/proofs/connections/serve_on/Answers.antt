use Rattle.recovery.specs.Open.{state_of}
use Rattle.sockets.specs.Attendance.{visits_of}
use Rattle.server_threads.proofs.Attending.{nobody_served, none_came}
use Rattle.server_threads.proofs.connections.serve_on.Goals as goal

-- nobody was served
pub returns-in_default-clause-served : goal.returns-in_default-clause-served
returns-in_default-clause-served g c =
    let un = c.unserved in
    nobody_served (state_of c.args.store) (visits_of un.result.attendance) un.result.served c.args.store un.result.store un.ensures.back.0 un.ensures.nobody.0 un.ensures.back.2

pub returns-in_default-clause-attended : goal.returns-in_default-clause-attended
returns-in_default-clause-attended g c = none_came _ _ c.unserved.result.attendance c.unserved.ensures.nobody
