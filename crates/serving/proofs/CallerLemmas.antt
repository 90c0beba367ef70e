-- Lemmas of pieces, as the proofs of other crates cite them.
pub use Rattle.serving.proofs.Answering.{answers_nothing, taken_so, stops_so}
