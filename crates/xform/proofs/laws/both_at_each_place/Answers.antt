use Rattle.xform.proofs.AtEachPlace.{both_at_each_place}
use Rattle.xform.proofs.laws.both_at_each_place.Goals as goal

pub returns : goal.returns
returns c = both_at_each_place
