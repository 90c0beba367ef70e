use Rattle.revision.proofs.Alike.{agreeing_answer, agreeing_answer_held}
use Rattle.revision.proofs.laws.agreeing_answer.Goals as goal

pub returns-clause-all : goal.returns-clause-all
returns-clause-all c = agreeing_answer

pub returns-clause-held : goal.returns-clause-held
returns-clause-held c = agreeing_answer_held
