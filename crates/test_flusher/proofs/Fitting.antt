-- A batch of as many bytes as a flusher's cap fits a slot.
pub use Rattle.flusher.proofs.CallerLemmas.{fits_slot}
