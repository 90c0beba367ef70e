use Rattle.delta.proofs.Joins.{units_below-counted}
use Rattle.delta.proofs.laws.units_counted.Goals as goal

pub returns : goal.returns
returns c = units_below-counted
