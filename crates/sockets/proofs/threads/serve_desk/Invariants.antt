use Rattle.sockets.specs.Desks.{ServesVisits}
use Rattle.sockets.proofs.threads.serve_desk.Given as goal

-- the desk has served the visits so far
abbrev pub invariant-peers : goal.invariant-peers
invariant-peers g l = ServesVisits g.K.Desk.does l.hall.ended.id l.guests.visits.list l.fn.desk l.desk
