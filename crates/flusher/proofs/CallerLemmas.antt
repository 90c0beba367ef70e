-- Laws of `laws`, and lemmas, as the proofs of other crates cite them.
pub use Rattle.flusher.proofs.Fitting.{fits_slot}
pub use Rattle.flusher.proofs.Beginnings.{commands-append, fewer, longer, no_more, these, within_write}
pub use Rattle.flusher.proofs.Holdings.{refusal_in, same_batch, told_of_error, no_error, same_refusal}
pub use Rattle.flusher.proofs.Lasting.{lasting_of}
pub use Rattle.flusher.proofs.Keeping.{keeps_all, keeps_on}
pub use Rattle.flusher.proofs.Writes.{memory_not_fault}
