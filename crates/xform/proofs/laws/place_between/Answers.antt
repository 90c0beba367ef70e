use Rattle.xform.proofs.Between.{place_between}
use Rattle.xform.proofs.laws.place_between.Goals as goal

pub returns : goal.returns
returns c = place_between
