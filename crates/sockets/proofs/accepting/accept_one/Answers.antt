use Rattle.sockets.specs.Socket.{Came, AcceptFailed}
use Rattle.sockets.proofs.accepting.accept_one.Goals as goal

pub returns-in-Ok-clause-one : goal.returns-in-Ok-clause-one
returns-in-Ok-clause-one g c = (Came, c.in-Ok.ensures.came)

pub returns-in-Err-clause-one : goal.returns-in-Err-clause-one
returns-in-Err-clause-one g c = (AcceptFailed, c.in-Err.ensures.failed)
