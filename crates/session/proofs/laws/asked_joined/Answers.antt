use Rattle.session.proofs.Feeding.{asks-joined}
use Rattle.session.proofs.Sending.{asked_more}
use Rattle.session.proofs.laws.asked_joined.Goals as goal

pub returns-clause-more : goal.returns-clause-more
returns-clause-more g c = asks-joined g.D.Desk.does

pub returns-clause-sent_ahead : goal.returns-clause-sent_ahead
returns-clause-sent_ahead g c = asked_more g.D.Desk.does
