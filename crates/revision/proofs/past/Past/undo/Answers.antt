use Rattle.std.proofs.Common.{◌≡◌, ◌+◌, ◌-◌, ◌≤◌, ◌^◌, List, length, take, drop, sym, ap, ap₂, subst, ◌∙◌, arith}
use Rattle.std.specs.Prelude.{IfOk}
use Rattle.delta.specs.Operation.{Operation}
use Rattle.compose.specs.Many.{applied}
use Rattle.revision.specs.Late.{all_inserted}
use Rattle.revision.specs.Past.{AreKept, StandInTurn, way_back_late}
use Rattle.revision.specs.steps.PastView.{parts_of}
use Rattle.revision.proofs.Parts.{below_newest, undo_room, undo_is}
use Rattle.revision.proofs.Beginnings.{taken_stand, taken_before, taken_after}
use Rattle.revision.proofs.past.Past.undo.Goals as goal

pub undo_one-requires-clause-stand : goal.undo_one-requires-clause-stand
undo_one-requires-clause-stand c =
    let parts = parts_of c.self.inside in
    let before = c.args.revision - 1 in
    let from = c.beginning-from.result.0 in
    let base = c.beginning-from.result.1.now in
    let kept = subst (AreKept parts.start parts.count parts.units parts.deltas) (sym c.as_slice.ensures.value) c.self.invariant.kept in
    let base_is : base ≡ applied parts.units (take (from - parts.start) parts.deltas) = c.beginning-from.ensures.there parts.count parts.deltas kept in
    let there = below_newest parts c.self.invariant c.args.self.now c.self.view_is before (omega (arith, c.requires.held)) (omega (arith, c.requires.there)) in
    subst (λ (l : List (List Operation)). StandInTurn base (take (parts.count - (from - parts.start)) (drop (from - parts.start) l))) (sym c.as_slice-2.ensures.value)
    (taken_stand parts c.self.invariant from base c.beginning-from.ensures.above base_is before c.beginning-from.ensures.below there)

pub undo_one-requires-clause-room : goal.undo_one-requires-clause-room
undo_one-requires-clause-room c =
    let parts = parts_of c.self.inside in
    let before = c.args.revision - 1 in
    let from = c.beginning-from.result.0 in
    let base = c.beginning-from.result.1.now in
    let kept = subst (AreKept parts.start parts.count parts.units parts.deltas) (sym c.as_slice.ensures.value) c.self.invariant.kept in
    let base_is : base ≡ applied parts.units (take (from - parts.start) parts.deltas) = c.beginning-from.ensures.there parts.count parts.deltas kept in
    let there = below_newest parts c.self.invariant c.args.self.now c.self.view_is before (omega (arith, c.requires.held)) (omega (arith, c.requires.there)) in
    let slice = take (parts.count - (from - parts.start)) (drop (from - parts.start) parts.deltas) in
    let room = undo_room parts c.self.invariant c.args.self.now c.self.view_is before (omega (arith, c.requires.held)) (omega (arith, c.requires.there)) in
    subst
    (λ (l : List (List Operation)). length (applied base (take (before - from) (take (parts.count - (from - parts.start)) (drop (from - parts.start) l))))
    + all_inserted (drop (before - from) (take (parts.count - (from - parts.start)) (drop (from - parts.start) l))) ≤ 2 ^ 48)
    (sym c.as_slice-2.ensures.value)
    (subst (λ d. length d + all_inserted (drop (before - from) slice) ≤ 2 ^ 48)
    (sym (taken_before parts c.self.invariant from base c.beginning-from.ensures.above base_is before c.beginning-from.ensures.below there))
    (subst (λ (l : List (List Operation)). length (applied parts.units (take (before - parts.start) (take parts.count parts.deltas))) + all_inserted l ≤ 2 ^ 48)
    (sym (taken_after parts c.self.invariant from base c.beginning-from.ensures.above base_is before c.beginning-from.ensures.below there)) room))

pub returns : goal.returns
returns c = record {
  undo =
      let parts = parts_of c.self.inside in
      let before = c.args.revision - 1 in
      let from = c.beginning-from.result.0 in
      let base = c.beginning-from.result.1.now in
      let kept = subst (AreKept parts.start parts.count parts.units parts.deltas) (sym c.as_slice.ensures.value) c.self.invariant.kept in
      let base_is : base ≡ applied parts.units (take (from - parts.start) parts.deltas) = c.beginning-from.ensures.there parts.count parts.deltas kept in
      let there = below_newest parts c.self.invariant c.args.self.now c.self.view_is before (omega (arith, c.requires.held)) (omega (arith, c.requires.there)) in
      subst (λ (delta : List Operation). IfOk c.undo_one.result (λ back. back ≡ delta))
      (ap
      (λ (l : List (List Operation)). way_back_late (applied base (take (before - from) (take (parts.count - (from - parts.start)) (drop (from - parts.start) l))))
      (drop (before - from) (take (parts.count - (from - parts.start)) (drop (from - parts.start) l))))
      c.as_slice-2.ensures.value
      ∙ (ap₂ way_back_late (taken_before parts c.self.invariant from base c.beginning-from.ensures.above base_is before c.beginning-from.ensures.below there)
      (taken_after parts c.self.invariant from base c.beginning-from.ensures.above base_is before c.beginning-from.ensures.below there)
      ∙ undo_is parts c.self.invariant c.args.self.now c.self.view_is before (omega (arith, c.requires.held)) (omega (arith, c.requires.there))))
      c.undo_one.ensures.undo;
}
