-- What the proofs of other crates may cite of this one: each lemma is promised as a law of src/laws.rt. Declares nothing.
pub use Rattle.utf16.proofs.CodeUnits.{units_of-append, units_of-halves, utf8_of-units_of, same_units, pair_of-large}
