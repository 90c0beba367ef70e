use Rattle.std.proofs.Common.{◌≡◌, ◌+◌, ◌++◌, ◌∷◌, [], Some, ap, sym, subst, ◌∙◌}
use Rattle.delta.specs.Gaps.{counted}
use Rattle.document.specs.Outcome.{IsAccepted}
use Rattle.revision.specs.Sources.{Table}
use Rattle.revision.specs.Past.{Prepared, Next, own_delta, next_by, units_after, prepared_units, prepared_revision}
use Rattle.revision.specs.Pending.{PendingDocument, ComesOf}
use Rattle.revision.proofs.Following.{prepared_comes}
use Rattle.revision.proofs.Turning.{own-after}
use Rattle.revision.proofs.past.doc_state.DocState.take_over.Goals as goal

pub note-requires-clause-accepted : goal.note-requires-clause-accepted
note-requires-clause-accepted c =
    rw c.keep_apart.ensures (subst (λ (e : PendingDocument). IsAccepted (prepared_units e.past) (counted c.args.change.delta)) (sym c.self.view_is) c.requires.accepted)

-- what is kept beside the past comes of it
pub invariant_of-self-2 : goal.invariant_of-self-2
invariant_of-self-2 c =
    let inside = c.self.inside in
    let change = c.args.change in
    let one : Next = next_by change.source change.number change.step change.delta in
    let past : Prepared = record inside.past { next = inside.past.next ++ one ∷ [] } in
    let noted : c.note.new.past ≡ past = c.in_ok-note.ensures.past ∙ ap (λ (p : Prepared). record p { next = p.next ++ one ∷ [] }) c.keep_apart.ensures in
    let after = c.in_ok-after.after in
    let after_is : after ≡ units_after (prepared_units inside.past) change.step (own_delta change.step change.delta) =
    c.in_ok-after.ensures.same
    ∙ (c.requires.made
    ∙ (ap (λ (e : PendingDocument). units_after (prepared_units e.past) change.step change.delta) (sym c.self.view_is)
    ∙ sym (own-after (prepared_units inside.past) change.step change.delta))) in
    let follows : change.revision ≡ prepared_revision inside.past + 1 = c.requires.revision ∙ ap (λ (e : PendingDocument). prepared_revision e.past + 1) (sym c.self.view_is) in
    subst (λ (p : Prepared). ComesOf p inside.document (Some after) c.note.new.sources) (sym noted)
    (subst (λ (t : Table). ComesOf past inside.document (Some after) t) (sym c.in_ok-note.ensures.sources)
    (prepared_comes inside.past inside.document after inside.next inside.sources one change.revision c.self.invariant after_is follows))
