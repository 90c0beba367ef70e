use Rattle.milestone.proofs.Sizes.{cell_fits}
use Rattle.milestone.proofs.laws.fits.Goals as goal

pub returns : goal.returns
returns c = cell_fits
