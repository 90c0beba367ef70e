use Rattle.std.proofs.Common.{◌≡◌, ◌+◌, ◌≤◌, ◌<◌, ◌^◌, true, Some, List, ◌++◌, ◌∷◌, [], length, sym, ap, subst, ◌∙◌, arith}
use Rattle.delta.specs.Element.{Element}
use Rattle.delta.specs.Gaps.{counted, apply}
use Rattle.document.specs.Outcome.{IsAccepted}
use Rattle.revision.specs.Command.{Step}
use Rattle.revision.specs.Sources.{Table}
use Rattle.revision.specs.Past.{Prepared, Next, IsBlankFor, is_content, suits, own_delta, next_by, units_after, prepared_content, prepared_units, prepared_revision}
use Rattle.revision.specs.State.{stands}
use Rattle.revision.specs.Pending.{PendingDocument, AreNextUnits, ComesOf}
use Rattle.revision.proofs.Following.{units-unprepared, next_suits, next_revision, next_light, prepared_comes}
use Rattle.revision.proofs.Light.{blank-for}
use Rattle.revision.proofs.Turning.{own-after}
use Rattle.revision.proofs.past.doc_state.DocState.prepare_next.Goals as goal
use Rattle.revision.proofs.past.doc_state.DocState.prepare_next.Goals.{In_ok-change}

pub change_on-requires-clause-blank : goal.change_on-requires-clause-blank
change_on-requires-clause-blank c =
    let d = c.args.self.now in
    let taken = c.args.taken in
    let may = subst (λ (e : PendingDocument). is_content (prepared_content e.past) ≡ true) c.self.view_is c.facts.ensures.content in
    subst (IsBlankFor taken.step) (sym c.ahead.ensures)
    (blank-for (prepared_content d.past) taken.step may (next_suits c.args.limits d taken c.requires.limits c.requires.follows))

pub change_on-requires-clause-stands : goal.change_on-requires-clause-stands
change_on-requires-clause-stands c =
    let taken = c.args.taken in
    subst (λ (u : List Element). stands taken.step taken.delta u ≡ true) (sym c.ahead.ensures)
    (next_light c.args.limits c.args.self.now taken c.requires.limits c.requires.follows).0

pub change_on-requires-clause-short : goal.change_on-requires-clause-short
change_on-requires-clause-short c =
    let taken = c.args.taken in
    subst (λ (u : List Element). length (units_after u taken.step taken.delta) ≤ 2 ^ 29) (sym c.ahead.ensures)
    (next_light c.args.limits c.args.self.now taken c.requires.limits c.requires.follows).1

-- what the change stands on, and what it does
here : (c : In_ok-change) → c.ahead.result.now ≡ prepared_units c.self.inside.past
here c = c.ahead.ensures ∙ ap (λ (e : PendingDocument). prepared_units e.past) (sym c.self.view_is)

suited : (c : In_ok-change) → suits (prepared_content c.self.inside.past).live c.in_ok-change.change.step ≡ true
suited c =
    let step : c.in_ok-change.change.step ≡ c.args.taken.step = ap (λ (n : Next). n.step) c.in_ok-change.ensures.next in
    subst (λ (e : PendingDocument). suits (prepared_content e.past).live c.in_ok-change.change.step ≡ true) (sym c.self.view_is)
    (subst (λ (st : Step). suits (prepared_content c.args.self.now.past).live st ≡ true) (sym step)
    (next_suits c.args.limits c.args.self.now c.args.taken c.requires.limits c.requires.follows))

leading : (c : In_ok-change) → apply (prepared_units c.self.inside.past) (counted c.in_ok-change.change.delta)
    ≡ units_after (prepared_units c.self.inside.past) c.in_ok-change.change.step c.in_ok-change.change.delta
leading c =
    subst (λ (u : List Element). apply u (counted c.in_ok-change.change.delta) ≡ units_after u c.in_ok-change.change.step c.in_ok-change.change.delta) (here c)
    c.in_ok-change.ensures.leads

accepted : (c : In_ok-change) → IsAccepted (prepared_units c.self.inside.past) (counted c.in_ok-change.change.delta)
accepted c = subst (λ (u : List Element). IsAccepted u (counted c.in_ok-change.change.delta)) (here c) c.in_ok-change.ensures.accepted

short : (c : In_ok-change) → length (apply (prepared_units c.self.inside.past) (counted c.in_ok-change.change.delta)) ≤ 2 ^ 29
short c = subst (λ (u : List Element). length (apply u (counted c.in_ok-change.change.delta)) ≤ 2 ^ 29) (here c) c.in_ok-change.ensures.short

following : (c : In_ok-change) → c.in_ok-change.change.revision ≡ prepared_revision c.self.inside.past + 1
following c =
    c.in_ok-change.ensures.revision
    ∙ (next_revision c.args.limits c.args.self.now c.args.taken c.requires.limits c.requires.follows
    ∙ ap (λ (d : PendingDocument). prepared_revision d.past + 1) (sym c.self.view_is))

bound : (c : In_ok-change) → prepared_revision c.self.inside.past + 1 < 2 ^ 53
bound c = omega (arith, following c, c.in_ok-change.ensures.last)

pub note_on-requires-clause-suits : goal.note_on-requires-clause-suits
note_on-requires-clause-suits c = suited (goal.at.note_on-requires-clause-suits c).In_ok-change

pub note_on-requires-clause-leads : goal.note_on-requires-clause-leads
note_on-requires-clause-leads c = leading (goal.at.note_on-requires-clause-leads c).In_ok-change

pub note_on-requires-clause-accepted : goal.note_on-requires-clause-accepted
note_on-requires-clause-accepted c = accepted (goal.at.note_on-requires-clause-accepted c).In_ok-change

pub note_on-requires-clause-short : goal.note_on-requires-clause-short
note_on-requires-clause-short c = short (goal.at.note_on-requires-clause-short c).In_ok-change

pub note_on-requires-clause-revision : goal.note_on-requires-clause-revision
note_on-requires-clause-revision c = bound (goal.at.note_on-requires-clause-revision c).In_ok-change

pub after_taken-requires : goal.after_taken-requires
after_taken-requires c =
    let inside = c.self.inside in
    let units : prepared_units inside.past ≡ inside.document =
    units-unprepared inside.past inside.document inside.next inside.sources c.self.invariant (sym c.in-None.ensures.value) in
    subst (λ (u : List Element). IsAccepted u (counted c.in_ok-change.change.delta)) units (accepted (goal.at.after_taken-requires c).In_ok-change)

pub note-requires-clause-suits : goal.note-requires-clause-suits
note-requires-clause-suits c = rw c.keep.ensures (suited (goal.at.note-requires-clause-suits c).In_ok-change)

pub note-requires-clause-leads : goal.note-requires-clause-leads
note-requires-clause-leads c = rw c.keep.ensures (leading (goal.at.note-requires-clause-leads c).In_ok-change)

pub note-requires-clause-accepted : goal.note-requires-clause-accepted
note-requires-clause-accepted c = rw c.keep.ensures (accepted (goal.at.note-requires-clause-accepted c).In_ok-change)

pub note-requires-clause-short : goal.note-requires-clause-short
note-requires-clause-short c = rw c.keep.ensures (short (goal.at.note-requires-clause-short c).In_ok-change)

pub note-requires-clause-revision : goal.note-requires-clause-revision
note-requires-clause-revision c = rw c.keep.ensures (bound (goal.at.note-requires-clause-revision c).In_ok-change)

pub invariant_of-self : goal.invariant_of-self
invariant_of-self c =
    let inside = c.self.inside in
    let change = c.in_ok-change.change in
    let one : Next = next_by change.source change.number change.step change.delta in
    let after = c.note_on.new.next in
    let past : Prepared = record inside.past { next = inside.past.next ++ one ∷ [] } in
    let there : inside.next ≡ Some c.in-Some-as_mut.next.now = sym c.in-Some-as_mut.ensures.value in
    let units : c.in-Some-as_mut.next.now ≡ prepared_units inside.past = subst (AreNextUnits inside.past) there c.self.invariant.after in
    let after_is : after ≡ units_after (prepared_units inside.past) change.step (own_delta change.step change.delta) =
    c.in_ok-note_on-in-Some-as_mut.ensures.next
    ∙ (ap (λ u. units_after u change.step change.delta) units ∙ sym (own-after (prepared_units inside.past) change.step change.delta)) in
    subst (λ (p : Prepared). ComesOf p inside.document (Some after) c.note_on.new.sources) (sym c.in_ok-note_on-in-Some-as_mut.ensures.past)
    (subst (λ (t : Table). ComesOf past inside.document (Some after) t) (sym c.in_ok-note_on-in-Some-as_mut.ensures.sources)
    (prepared_comes inside.past inside.document after inside.next inside.sources one change.revision c.self.invariant after_is
    (following (goal.at.invariant_of-self c).In_ok-change)))

-- so does what is given beside it
pub take_over-requires-clause-suits : goal.take_over-requires-clause-suits
take_over-requires-clause-suits c =
    let made = (goal.at.take_over-requires-clause-suits c).In_ok-change in
    subst (λ (e : PendingDocument). suits (prepared_content e.past).live made.in_ok-change.change.step ≡ true) made.self.view_is (suited made)

pub take_over-requires-clause-accepted : goal.take_over-requires-clause-accepted
take_over-requires-clause-accepted c =
    let made = (goal.at.take_over-requires-clause-accepted c).In_ok-change in
    subst (λ (e : PendingDocument). IsAccepted (prepared_units e.past) (counted made.in_ok-change.change.delta)) made.self.view_is (accepted made)

pub take_over-requires-clause-revision : goal.take_over-requires-clause-revision
take_over-requires-clause-revision c =
    let made = (goal.at.take_over-requires-clause-revision c).In_ok-change in
    following made ∙ ap (λ (e : PendingDocument). prepared_revision e.past + 1) made.self.view_is
