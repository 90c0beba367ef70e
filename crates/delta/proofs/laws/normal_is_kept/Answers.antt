use Rattle.delta.proofs.BuiltLists.{nf-same}
use Rattle.delta.proofs.laws.normal_is_kept.Goals as goal

pub returns : goal.returns
returns c = nf-same
