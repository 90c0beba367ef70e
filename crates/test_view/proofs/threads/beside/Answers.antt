use denote.Param.{param}
use denote.Param.Send.{sendable}
use Rattle.disk.specs.contracts.memory.MemDisk as disk
use Rattle.view.proofs.CallerLemmas.{viewer_send}
use Rattle.test_view.proofs.threads.beside.Goals as goal

pub join-last-requires-send-F : goal.join-last-requires-send-F
join-last-requires-send-F g c κs within =
    let viewer = viewer_send disk.the_row (param 0 g.row.L) g.L.Life g.L.Ledger c.type_bounds.send-L c.type_bounds.sync-L in
    let runtime = c.type_bounds.sync-R in
    search sendable depth 20 fits 20000
