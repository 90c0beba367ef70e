use Rattle.hub_desk.proofs.StandsOn.{stands_later, stands_alike}
use Rattle.hub_desk.proofs.laws.stands_on.Goals as goal

pub returns-clause-later : goal.returns-clause-later
returns-clause-later c = stands_later

pub returns-clause-alike : goal.returns-clause-alike
returns-clause-alike c = stands_alike
