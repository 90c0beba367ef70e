use Rattle.flusher.proofs.Fitting.{fits_slot}
use Rattle.flusher.proofs.laws.cap_fits_slot.Goals as goal

pub returns : goal.returns
returns c = fits_slot
