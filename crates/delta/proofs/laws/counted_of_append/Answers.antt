use Rattle.delta.proofs.Joins.{counted-append}
use Rattle.delta.proofs.laws.counted_of_append.Goals as goal

pub returns : goal.returns
returns c = counted-append
