-- Lemmas, as the proofs of other crates cite them.
pub use Rattle.turns.proofs.Counting.{at_begun, at_kept, at_kept_up, at_committed, at_held, comes_next, at_settled}
