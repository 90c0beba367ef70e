use Rattle.std.proofs.Common.{◌≡◌, ◌-◌, List, take, drop, refl, sym, ap, subst, ◌∙◌}
use Rattle.std.specs.Prelude.{IfOk}
use Rattle.delta.specs.Operation.{Operation}
use Rattle.compose.specs.Many.{applied}
use Rattle.revision.specs.Past.{AreKept, StandInTurn}
use Rattle.revision.specs.steps.PastView.{parts_of}
use Rattle.revision.proofs.Parts.{document_is}
use Rattle.revision.proofs.FromBase.{slice-from}
use Rattle.revision.proofs.Beginnings.{begin_stand, begin_applied}
use Rattle.revision.proofs.past.Past.document_at.Goals as goal

pub document_after-requires-clause-stand : goal.document_after-requires-clause-stand
document_after-requires-clause-stand c =
    let parts = parts_of c.self.inside in
    let from = c.beginning-from.result.0 in
    let base = c.beginning-from.result.1.now in
    let kept = subst (AreKept parts.start parts.count parts.units parts.deltas) (sym c.as_slice.ensures.value) c.self.invariant.kept in
    let base_is : base ≡ applied parts.units (take (from - parts.start) parts.deltas) = c.beginning-from.ensures.there parts.count parts.deltas kept in
    let slice = slice-from (from - parts.start) c.as_slice-2.result.now ∙ ap (λ (l : List (List Operation)). drop (from - parts.start) l) c.as_slice-2.ensures.value in
    subst (λ (l : List (List Operation)). StandInTurn base l) (sym slice) (begin_stand parts c.self.invariant from base c.beginning-from.ensures.above base_is)

pub returns : goal.returns
returns c = record {
  document =
      let parts = parts_of c.self.inside in
      let revision = c.args.revision in
      let from = c.beginning-from.result.0 in
      let base = c.beginning-from.result.1.now in
      let kept = subst (AreKept parts.start parts.count parts.units parts.deltas) (sym c.as_slice.ensures.value) c.self.invariant.kept in
      let base_is : base ≡ applied parts.units (take (from - parts.start) parts.deltas) = c.beginning-from.ensures.there parts.count parts.deltas kept in
      let slice = slice-from (from - parts.start) c.as_slice-2.result.now ∙ ap (λ (l : List (List Operation)). drop (from - parts.start) l) c.as_slice-2.ensures.value in
      subst (λ units. IfOk c.document_after.result (λ document. document ≡ units))
      (ap (λ (l : List (List Operation)). applied base (take (revision - from) l)) slice
      ∙ (begin_applied parts c.self.invariant from base c.beginning-from.ensures.above base_is revision c.beginning-from.ensures.below
      ∙ document_is parts c.self.invariant c.args.self.now c.self.view_is revision c.requires.held c.requires.there parts.deltas refl))
      c.document_after.ensures.document;
}
