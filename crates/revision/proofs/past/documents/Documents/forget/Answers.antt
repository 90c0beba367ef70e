use Rattle.std.proofs.Common.{◌≡◌, List, length, map, take, refl, sym, ap, ap₂, ◌∙◌, arith}
use Rattle.std.proofs.lemmas.List.{take_all, length-take-le}
use Rattle.revision.specs.Documents.{PreparedState, unprepared}
use Rattle.revision.specs.steps.ChangedAt.{changed_at_all}
use Rattle.revision.specs.steps.DocumentsView.{names_of}
use Rattle.revision.specs.steps.Index.{number_of}
use Rattle.revision.specs.Pending.{PendingDocument, record_of}
use Rattle.revision.specs.steps.Preparing.{forgotten}
use Rattle.revision.specs.State.{DocumentRecord}
use Rattle.revision.proofs.ChangedAt.{map-changed_at_all, length-changed_at_all}
use Rattle.revision.proofs.Untouched.{NothingPrepared, nothing_left, rest-none, rest-take, record_of-with_prepared}
use Rattle.revision.proofs.past.documents.Documents.forget.Goals as goal

-- what is left are the documents that are held
left : (c : goal.After-clear) → c.forget_each.new.documents.items ≡ changed_at_all forgotten c.self.inside.touched.items (take c.self.inside.count c.self.inside.documents.items)
left c = c.forget_each.ensures ∙ ap₂ (changed_at_all forgotten) c.as_slice.ensures.value c.drop_creations.ensures.documents

emptied : (c : goal.After-clear) → NothingPrepared c.forget_each.new.documents.items
emptied c =
    rw (left c)
    (nothing_left forgotten (λ d. refl) c.self.inside.touched.items (take c.self.inside.count c.self.inside.documents.items)
    (rest-take c.self.inside.count c.self.inside.touched.items c.self.inside.documents.items c.self.invariant.rest))

same_held : (c : goal.After-clear) → map record_of c.forget_each.new.documents.items ≡ map record_of (take c.self.inside.count c.self.inside.documents.items)
same_held c =
    ap (map record_of) (left c)
    ∙ map-changed_at_all record_of forgotten (λ d. refl) c.self.inside.touched.items (take c.self.inside.count c.self.inside.documents.items)

same_names : (c : goal.After-clear) → names_of c.forget_each.new.documents.items ≡ names_of c.drop_creations.new.documents.items
same_names c =
    ap names_of c.forget_each.ensures
    ∙ map-changed_at_all (λ (d : PendingDocument). d.name) forgotten (λ d. refl) c.as_slice.result.now c.drop_creations.new.documents.items

count_is : (c : goal.After-clear) → length c.forget_each.new.documents.items ≡ c.self.inside.count
count_is c =
    ap length (left c) ∙ length-changed_at_all forgotten c.self.inside.touched.items (take c.self.inside.count c.self.inside.documents.items)
    ∙ length-take-le c.self.inside.count c.self.inside.documents.items c.self.invariant.held

pub invariant_of-self : goal.invariant_of-self
invariant_of-self c = record {
  limits = c.self.invariant.limits;
  held = omega (arith, count_is c);
  room = omega (arith, count_is c, c.self.invariant.held, c.self.invariant.room);
  index = λ q. c.drop_creations.ensures.index q ∙ ap (number_of q 0) (sym (same_names c));
  none_twice = rw (same_names c) c.drop_creations.ensures.once;
  rest = rw c.clear.ensures.items (rest-none _ (emptied c));
}

pub returns : goal.returns
returns c =
    let all : map record_of (take c.self.inside.count c.forget_each.new.documents.items) ≡ map record_of (take c.self.inside.count c.self.inside.documents.items) =
    ap (map record_of) (take_all _ _ (omega (arith, count_is c))) ∙ same_held c in
    ap₂ (λ (b a : List DocumentRecord). record { before = record { limits = c.self.inside.limits; documents = b }; after = record { limits = c.self.inside.limits; documents = a } })
    all (sym (record_of-with_prepared c.self.inside.limits.keep _ (emptied c)) ∙ same_held c)
    ∙ ap (λ (p : PreparedState). unprepared p.before) c.self.view_is
