use Rattle.world.proofs.Followings.{follows}
use Rattle.world.proofs.laws.follower_follows.Goals as goal

pub returns : goal.returns
returns c = follows
