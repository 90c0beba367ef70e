-- What the proofs of other crates may cite of this one: each lemma is promised as a law of src/laws.rt. Declares nothing.
pub use Rattle.xform.proofs.Afterwards.{both_ways, defined_after, units_below-beside}
