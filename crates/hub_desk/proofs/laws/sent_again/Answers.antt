use Rattle.hub_desk.proofs.StandsOn.{not_taken_again}
use Rattle.hub_desk.proofs.laws.sent_again.Goals as goal

pub returns : goal.returns
returns c = not_taken_again
