use Rattle.std.proofs.Common.{◌≡◌, ◌-◌, ◌^◌, min, length, arith, ap, ◌∙◌, sym, Some}
use Rattle.utf16.specs.Units.{units_of}
use Rattle.delta.specs.Element.{letters}
use Rattle.document.specs.Chunks.{IsChunk}
use Rattle.document.specs.Runs.{units_of_runs, last_attributes}
use Rattle.document.specs.Weight.{weight_of}
use Rattle.document.proofs.Chunked.{taken_length, taken_measures}
use Rattle.document.proofs.Letters.{length-letters}
use Rattle.document.proofs.chunk.Chunk.merge_last.Goals as goal

pub invariant_of-self-in-Some : goal.invariant_of-self-in-Some
invariant_of-self-in-Some c =
    let us = units_of c.args.text.now in
    let runs = c.in-Some.runs.now.items in
    let is : last_attributes runs ≡ Some c.args.attrs.now =
    rw (c.in-Some.ensures.value, c.self.view_is) (c.last.ensures ∙ c.takes.ensures.0 c.if-not-takes.false) in
    let is_chunk : IsChunk runs = rw c.in-Some.ensures.value c.self.invariant.2 in
    let counted : c.self.inside.units ≡ length (units_of_runs runs) = rw c.in-Some.ensures.value c.self.invariant.0 in
    let weighs : c.self.inside.weight ≡ min (weight_of (units_of_runs runs)) (2 ^ 64 - 1) = rw c.in-Some.ensures.value c.self.invariant.1 in
    taken_measures c.in_ok-merge_into.field-0 runs c.merge_into.new.runs.items (letters us c.args.attrs.now) c.args.attrs.now c.self.inside.units c.args.units c.self.inside.weight c.text_weight-more.result _ _
    is c.in_ok-merge_into.ensures.ok is_chunk counted (c.requires.counted ∙ sym (length-letters us c.args.attrs.now)) weighs c.text_weight-more.ensures c.saturating_add-self-inside.ensures

pub new-requires-clause-bound : goal.new-requires-clause-bound
new-requires-clause-bound c =
    let us = units_of c.args.text.now in
    let runs = c.in_ok-runs.runs.items in
    let same : runs ≡ c.args.self.now =
    c.in_ok-runs.ensures.same ∙ (c.as_slice.ensures.value ∙ (rw c.deref.ensures c.self.view_is)) in
    let is : last_attributes runs ≡ Some c.args.attrs.now = rw same (c.last.ensures ∙ c.takes.ensures.0 c.if-not-takes.false) in
    omega (
      arith,
      taken_length c.in_ok-merge_into-2.field-0 runs c.merge_into-2.new.runs.items (letters us c.args.attrs.now) c.args.attrs.now is c.in_ok-merge_into-2.ensures.ok,
      ap (λ l. length (units_of_runs l)) same,
      length-letters us c.args.attrs.now,
      c.requires.counted,
      c.requires.bound,
    )
