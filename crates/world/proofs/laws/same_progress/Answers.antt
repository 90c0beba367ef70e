use Rattle.world.proofs.SameProgresses.{same_progress}
use Rattle.world.proofs.laws.same_progress.Goals as goal

pub returns : goal.returns
returns c = same_progress
