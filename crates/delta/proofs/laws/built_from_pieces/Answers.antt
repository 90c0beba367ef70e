use Rattle.delta.proofs.BuiltLists.{built-append_built}
use Rattle.delta.proofs.laws.built_from_pieces.Goals as goal

pub returns : goal.returns
returns c = built-append_built
