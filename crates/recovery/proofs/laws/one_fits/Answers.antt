use Rattle.recovery.proofs.Fitting.{one_fits}
use Rattle.recovery.proofs.laws.one_fits.Goals as goal

pub returns : goal.returns
returns c = one_fits
