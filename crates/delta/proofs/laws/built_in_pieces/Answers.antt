use Rattle.delta.proofs.BuiltLists.{built-append}
use Rattle.delta.proofs.laws.built_in_pieces.Goals as goal

pub returns : goal.returns
returns c = built-append
