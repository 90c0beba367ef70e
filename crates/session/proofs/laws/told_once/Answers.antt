use Rattle.session.proofs.Newsworthy.{told_again, told_on}
use Rattle.session.proofs.laws.told_once.Goals as goal

pub returns-clause-nothing_more : goal.returns-clause-nothing_more
returns-clause-nothing_more c = told_again

pub returns-clause-one_after_another : goal.returns-clause-one_after_another
returns-clause-one_after_another c = told_on
