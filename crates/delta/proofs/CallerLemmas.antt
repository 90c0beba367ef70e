-- What the proofs of other crates may cite of this one: laws of src/laws.rt, and lemmas that several crates share. Declares nothing.
pub use Rattle.delta.proofs.BuiltLists.{built-append, built-append_built, built-same, nf-same, nf-built}
pub use Rattle.delta.proofs.Effects.{apply-front, changed-empty, apply-nf}
pub use Rattle.delta.proofs.Joins.{front-nil, front-front, joined-front, joined-run, joined-End, units_below-front, units_below-run, counted-append, joined-joined, units_below-counted}
pub use Rattle.delta.proofs.LeftOver.{run-parts, left_after-within, left_after-beyond, left_after-whole, left_after-append, first-whole, counted-cut, len-first, len-last, base-cut, length-left, length-whole, normal-left, none_empty-left, normal-rest, none_empty-normal, normal-parts}
pub use Rattle.delta.proofs.Lengths.{units_below-settled, units_made-counted, units_made-settled, base_of-append, out_of-append, base_of-spelled, out_of-spelled, IsBounded-nf, IsBounded-built, base_of-nf, length-apply_counted, lengths-built, lengths-nf, length-fated, units_made-front, units_made-keeps, units_made-deletes}
pub use Rattle.delta.proofs.Neighbours.{built-parts, may_lead-text, may_lead-retain, built-from}
pub use Rattle.delta.proofs.Normality.{IsNormal-nf}
pub use Rattle.delta.proofs.Parts.{effect_of_parts, effect_of_nothing, effect_past_end, effect_of_text, effect_of_embed, effect_of_retain, effect_of_delete}
pub use Rattle.delta.proofs.SameEffects.{normal_of_same_effect, same_effect_from, same_effect}
pub use Rattle.delta.proofs.Settling.{settled-settled, settled-front, past-front, settled-joined, settled-joined_settled, front-Gap}
pub use Rattle.delta.proofs.Shortest.{shortest-joined}
pub use Rattle.delta.proofs.Spellings.{counted-spelled, spell_inserts-append}
pub use Rattle.delta.proofs.Trimmed.{nf-with_plain}
pub use Rattle.delta.proofs.Leads.{normal-retain, ends-retain}
