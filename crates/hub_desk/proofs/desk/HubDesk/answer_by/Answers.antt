use Rattle.hub_desk.proofs.Answering.{answered_refused}
use Rattle.hub_desk.proofs.desk.HubDesk.answer_by.Goals as goal

pub returns-in-Err-clause-answer : goal.returns-in-Err-clause-answer
returns-in-Err-clause-answer g c =
    answered_refused g.L.Life.start c.args.self.now c.refused.new.self c.args.command.now c.args.submitted.now c.in-Err.why c.refused.result c.in-Err.is
    c.refused.ensures.refusal c.refused.ensures.noted
