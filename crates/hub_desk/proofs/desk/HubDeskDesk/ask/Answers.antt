use Rattle.hub_desk.proofs.Answering.{asked_one}
use Rattle.hub_desk.proofs.desk.HubDeskDesk.ask.Goals as goal

pub returns-clause-answered : goal.returns-clause-answered
returns-clause-answered g c =
    asked_one g.L.Life.start c.args.self.now c.submit-submitted.new.self c.answer_by-answer.new.self c.args.command.now c.submit-submitted.result c.answer_by-answer.result
    c.submit-submitted.ensures.after c.submit-submitted.ensures.counts c.answer_by-answer.ensures.others c.answer_by-answer.ensures.answer
