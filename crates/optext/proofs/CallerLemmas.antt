-- Lemmas of this crate that the proofs of other crates cite.
pub use Rattle.optext.proofs.ReadBack.{few_items, length_of-printed}
pub use Rattle.optext.proofs.Embeds.{key_of-key}
