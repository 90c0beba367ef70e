use Rattle.optext.proofs.Floats.{have_float-printed}
use Rattle.optext.proofs.laws.printed_without_floats.Goals as goal

pub returns : goal.returns
returns c = have_float-printed
