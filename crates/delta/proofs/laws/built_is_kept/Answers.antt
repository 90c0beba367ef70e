use Rattle.delta.proofs.BuiltLists.{built-same}
use Rattle.delta.proofs.laws.built_is_kept.Goals as goal

pub returns : goal.returns
returns c = built-same
