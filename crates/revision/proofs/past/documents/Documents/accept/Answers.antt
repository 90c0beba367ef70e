use Rattle.std.proofs.Common.{◌≡◌, List, map, take, refl, sym, ap, ap₂, ◌∙◌, arith}
use Rattle.std.proofs.lemmas.List.{take_all}
use Rattle.revision.specs.Documents.{PreparedState, unprepared}
use Rattle.revision.specs.steps.DocumentsView.{names_of}
use Rattle.revision.specs.steps.Index.{number_of}
use Rattle.revision.specs.Pending.{PendingDocument, record_of, with_prepared}
use Rattle.revision.specs.steps.Preparing.{accepted}
use Rattle.revision.specs.State.{DocumentRecord}
use Rattle.revision.proofs.ChangedAt.{map-changed_at_all, length-changed_at_all}
use Rattle.revision.proofs.Untouched.{NothingPrepared, nothing_left, rest-none, record_of-with_prepared}
use Rattle.revision.proofs.past.documents.Documents.accept.Goals as goal

-- nothing is prepared afterwards
emptied : (c : goal.After-self-1) → NothingPrepared c.accept_each.new.documents.items
emptied c =
    rw c.accept_each.ensures (rw c.as_slice.ensures.value
    (nothing_left (accepted c.self.inside.limits.keep) (λ d. refl) c.self.inside.touched.items c.self.inside.documents.items c.self.invariant.rest))

-- what becomes of the documents is what it was
same_after : (c : goal.After-self-1) → map (with_prepared c.self.inside.limits.keep) c.accept_each.new.documents.items
    ≡ map (with_prepared c.self.inside.limits.keep) c.self.inside.documents.items
same_after c =
    ap (map (with_prepared c.self.inside.limits.keep)) c.accept_each.ensures
    ∙ map-changed_at_all (with_prepared c.self.inside.limits.keep) (accepted c.self.inside.limits.keep) (λ d. refl) c.as_slice.result.now c.self.inside.documents.items

same_names : (c : goal.After-self-1) → names_of c.accept_each.new.documents.items ≡ names_of c.self.inside.documents.items
same_names c =
    ap names_of c.accept_each.ensures
    ∙ map-changed_at_all (λ (d : PendingDocument). d.name) (accepted c.self.inside.limits.keep) (λ d. refl) c.as_slice.result.now c.self.inside.documents.items

pub invariant_of-self : goal.invariant_of-self
invariant_of-self c = record {
  limits = c.self.invariant.limits;
  held = omega (arith, c.len-self-inside.ensures);
  room = rw c.accept_each.ensures (rw (length-changed_at_all (accepted c.self.inside.limits.keep) c.as_slice.result.now c.self.inside.documents.items) c.self.invariant.room);
  index = λ q. c.self.invariant.index q ∙ ap (number_of q 0) (sym (same_names c));
  none_twice = rw (same_names c) c.self.invariant.none_twice;
  rest = rw c.clear.ensures.items (rest-none _ (emptied c));
}

pub returns : goal.returns
returns c =
    let all : map record_of (take c.len-self-inside.result c.accept_each.new.documents.items) ≡ map (with_prepared c.self.inside.limits.keep) c.self.inside.documents.items =
    ap (map record_of) (take_all _ _ (omega (arith, c.len-self-inside.ensures)))
    ∙ record_of-with_prepared c.self.inside.limits.keep _ (emptied c) ∙ same_after c in
    ap₂ (λ (b a : List DocumentRecord). record { before = record { limits = c.self.inside.limits; documents = b }; after = record { limits = c.self.inside.limits; documents = a } })
    all (same_after c)
    ∙ ap (λ (p : PreparedState). unprepared p.after) c.self.view_is
