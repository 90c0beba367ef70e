use Rattle.hub.proofs.Moving.{was_given}
use Rattle.hub.proofs.hub.Hub.submit.Goals as goal

pub returns-clause-given : goal.returns-clause-given
returns-clause-given g c =
    let after = c.submit_after-answer.ensures.after in
    was_given g.L.Life.start c.submit_after-answer.new.found c.args.command.now c.submit_after-answer.result after.legal after.given
