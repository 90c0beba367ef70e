use Rattle.world.proofs.SameProgresses.{batch_goes_on}
use Rattle.world.proofs.laws.batch_goes_on.Goals as goal

pub returns : goal.returns
returns c = batch_goes_on
