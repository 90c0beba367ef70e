use denote.Param.Send.{sendable}
use Rattle.std.proofs.Crossing.{crosses}
use Rattle.hub.proofs.CallerLemmas.{seat_send, tally_send, closer_send, hub_sync}
use Rattle.test_flusher.proofs.threads.beside.Goals as goal

pub join-held-requires-send-F : goal.join-held-requires-send-F
join-held-requires-send-F g c κs within =
    let s = c.type_bounds.send-L in let y = c.type_bounds.sync-L in let r = c.type_bounds.sync-R in
    search (seat_send, tally_send, closer_send, hub_sync, sendable, crosses) depth 60 fits 20000
