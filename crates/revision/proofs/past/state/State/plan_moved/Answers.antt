use Rattle.revision.proofs.Admitting.{plan_grows}
use Rattle.revision.proofs.past.state.State.plan_moved.Goals as goal

pub returns-clause-grows : goal.returns-clause-grows
returns-clause-grows c =
    plan_grows c.args.self.now c.args.command.now c.answer_to.result c.facts.ensures.first c.facts.ensures.last c.answer_to.ensures.due
