use Rattle.delta.proofs.Effects.{same_form}
use Rattle.delta.proofs.laws.same_form.Goals as goal

pub returns : goal.returns
returns c = same_form
