use Rattle.delta.proofs.Lengths.{length-apply_counted}
use Rattle.delta.proofs.laws.length_of_effect.Goals as goal

pub returns : goal.returns
returns c = length-apply_counted
