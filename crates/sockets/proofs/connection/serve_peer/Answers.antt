use Rattle.sockets.proofs.Served.{talks_with_nobody}
use Rattle.sockets.proofs.connection.serve_peer.Goals as goal

pub returns-in-Err : goal.returns-in-Err
returns-in-Err g c = talks_with_nobody g.K.Desk.does c.args.hall.now.ended.id c.in-Err.visit c.args.desk.now c.in-Err.ensures.refused
