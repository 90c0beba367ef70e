use denote.Param.{param}
use denote.Param.Send.{param_send, param_sync, arg_send, arg_sync, sendable}
use Rattle.std.proofs.Crossing.{crosses}
use Rattle.sockets.proofs.Crossing.{attendant_send, hall_sync, lobby_sync}
use Rattle.sockets.proofs.threads.begin.Goals as goal

-- the thread has the desk, and shares the hall and the lobby
pub spawn_with-requires-send-F : goal.spawn_with-requires-send-F
spawn_with-requires-send-F g c κs within =
    let lobby = lobby_sync (param 1 g.row.G) g.G.Ledger c.type_bounds.send-G in
    search (hall_sync, param_send, param_sync, arg_send, arg_sync, sendable, crosses) depth 30

-- and gives the desk back, with its guests
pub spawn_with-requires-send-T : goal.spawn_with-requires-send-T
spawn_with-requires-send-T g c κs within =
    let attendant = attendant_send (param 1 g.row.G) g.G.Ledger c.type_bounds.send-G (param 2 g.row.K) c.type_bounds.send-K in
    search (param_send, arg_send) depth 4
