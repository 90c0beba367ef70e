use Rattle.std.proofs.Common.{[], ◌≡◌, List, take, sym, ap, ap₂, subst, ◌∙◌}
use Rattle.delta.specs.Element.{Element}
use Rattle.delta.specs.Operation.{Operation}
use Rattle.revision.specs.Sources.{Sources}
use Rattle.revision.specs.declared.past.kept_document.Kept.{Kept}
use Rattle.revision.specs.declared.rule.taker.Taker.{Taker}
use Rattle.revision.specs.Past.{Parts, Prepared, AreParts, seen}
use Rattle.revision.specs.steps.PastView.{parts_of}
use Rattle.revision.proofs.Parts.{forget_is, forget_are}
use Rattle.revision.proofs.past.Past.copy_held.Goals as goal

pub invariant_of-result : goal.invariant_of-result
invariant_of-result c =
    let parts : Parts = parts_of c.self.inside in
    let takers : c.in_ok-takers.takers.items ≡ take c.self.inside.count c.self.inside.takers.items = c.in_ok-takers.ensures.same ∙ ap (take c.self.inside.count) c.as_slice.ensures.value in
    let deltas : c.in_ok-deltas.deltas.items ≡ take c.self.inside.count c.self.inside.deltas.items = c.in_ok-deltas.ensures.same ∙ ap (take c.self.inside.count) c.as_slice-2.ensures.value in
    let lists = ap₂ (λ (t : List Taker) (d : List (List Operation)). record parts { takers = t; deltas = d }) (sym takers) (sym deltas) in
    let others = ap₂ (λ (u : List Element) (s : Sources). record parts { units = u; sources = s; takers = c.in_ok-takers.takers.items; deltas = c.in_ok-deltas.deltas.items })
    (sym c.in_ok-document.ensures.same) (sym c.in_ok-sources.ensures.same) in
    let kept : c.in_ok-kept.kept.items ≡ c.self.inside.kept.items = c.in_ok-kept.ensures.same ∙ c.as_slice-3.ensures.value in
    let keeps = ap (λ (k : List Kept). record parts { units = c.in_ok-document.document; sources = c.in_ok-sources.sources; takers = c.in_ok-takers.takers.items; deltas = c.in_ok-deltas.deltas.items; kept = k }) (sym kept) in
    subst AreParts (lists ∙ (others ∙ keeps)) (forget_are parts c.self.invariant)

pub returns : goal.returns
returns c = record {
  same =
      let parts : Parts = parts_of c.self.inside in
      let takers : c.in_ok-takers.takers.items ≡ take c.self.inside.count c.self.inside.takers.items = c.in_ok-takers.ensures.same ∙ ap (take c.self.inside.count) c.as_slice.ensures.value in
      let deltas : c.in_ok-deltas.deltas.items ≡ take c.self.inside.count c.self.inside.deltas.items = c.in_ok-deltas.ensures.same ∙ ap (take c.self.inside.count) c.as_slice-2.ensures.value in
      let lists = ap₂ (λ (t : List Taker) (d : List (List Operation)). seen (record parts { takers = t; deltas = d })) takers deltas in
      let others = ap₂ (λ (u : List Element) (s : Sources). seen (record parts { units = u; sources = s; takers = c.in_ok-takers.takers.items; deltas = c.in_ok-deltas.deltas.items }))
      c.in_ok-document.ensures.same c.in_ok-sources.ensures.same in
      others ∙ (lists ∙ (forget_is parts c.self.invariant ∙ ap (λ (p : Prepared). record p { next = [] }) c.self.view_is));
}
