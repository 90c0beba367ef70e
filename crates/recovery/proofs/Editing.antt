-- Whether all entries edit, asked list by list of their documents.
use Rattle.std.proofs.Common.{◌≡◌, ◌↔◌, ℕ, zero, suc, ◌<◌, ◌≤◌, Bool, true, false, cond, List, [], ◌∷◌, length, get_or, refl, sym, subst, ◌∙◌, arith}
use Rattle.std.specs.Prelude.{◌==◌, nat_lt, Vec, All, IsTrue}
use Rattle.std.specs.declared.alloc.Global.{Global}
use Rattle.std.specs.List.{AllByRecursion}
use Rattle.std.proofs.lemmas.Bool.{and_parts, and_from, ltb-true, eq-eqb, cond_both}
use Rattle.std.proofs.lemmas.List.Elements.{All-from_recursion, recursion_from_All}
use Rattle.revision.specs.Command.{Taken, edits}
use Rattle.history.specs.Entries.{of_document}
use Rattle.recovery.proofs.Parts.{all-below}
use Rattle.recovery.specs.steps.Reading.{lists_of, are_below, all_edit, all_lists_edit, AreByDocument}

-- the entries of one document are some of all
own-edit : (number : ℕ) (entries : List Taken) → all_edit entries ≡ true → all_edit (of_document number entries) ≡ true
own-edit number [] h = refl
own-edit number (first ∷ others) h =
    let parts = and_parts (edits first.step) (all_edit others) h in
    cond_both (first.document == number) (first ∷ of_document number others) (of_document number others) (λ l. all_edit l ≡ true)
    (λ e. and_from _ _ parts.0 (own-edit number others parts.1)) (λ e. own-edit number others parts.1)

-- and each is one of its document
edit-own : (docs : ℕ) (entries : List Taken) → are_below docs entries ≡ true → ((number : ℕ) → number < docs → all_edit (of_document number entries) ≡ true)
    → all_edit entries ≡ true
edit-own docs [] below each = refl
edit-own docs (first ∷ others) below each =
    let parts = and_parts (nat_lt first.document docs) (are_below docs others) below in
    let here : all_edit (first ∷ of_document first.document others) ≡ true =
    subst (λ b. all_edit (cond b (first ∷ of_document first.document others) (of_document first.document others)) ≡ true) (eq-eqb first.document first.document refl)
    (each first.document (ltb-true _ _ parts.0)) in
    and_from _ _ (and_parts (edits first.step) (all_edit (of_document first.document others)) here).0
    (edit-own docs others parts.1 (λ number lt. rest (first.document == number) first (of_document number others) (each number lt)))
  where
    rest : (b : Bool) (t : Taken) (l : List Taken) → all_edit (cond b (t ∷ l) l) ≡ true → all_edit l ≡ true
    rest true t l h = (and_parts (edits t.step) (all_edit l) h).1
    rest false t l h = h

list-at : (lists : List (Vec Taken Global)) (n : ℕ) → all_lists_edit lists ≡ true → n < length (lists_of lists) → all_edit (get_or (lists_of lists) n []) ≡ true
list-at [] n h lt = absurd (omega (arith, lt))
list-at (first ∷ others) zero h lt = (and_parts (all_edit first.items) (all_lists_edit others) h).0
list-at (first ∷ others) (suc n) h lt = list-at others n (and_parts (all_edit first.items) (all_lists_edit others) h).1 (omega (arith, lt))

lists-from : (lists : List (Vec Taken Global)) → ((n : ℕ) → n < length (lists_of lists) → all_edit (get_or (lists_of lists) n []) ≡ true) → all_lists_edit lists ≡ true
lists-from [] each = refl
lists-from (first ∷ others) each = and_from _ _ (each 0 (omega arith)) (lists-from others (λ n lt. each (suc n) (omega (arith, lt))))

edit-all : (entries : List Taken) → all_edit entries ≡ true → AllByRecursion (λ (taken : Taken). edits taken.step ≡ true) entries
edit-all [] h = tt
edit-all (first ∷ others) h =
    let parts = and_parts (edits first.step) (all_edit others) h in
    (parts.0, edit-all others parts.1)

all-edit : (entries : List Taken) → AllByRecursion (λ (taken : Taken). edits taken.step ≡ true) entries → all_edit entries ≡ true
all-edit [] each = refl
all-edit (first ∷ others) each = and_from _ _ each.0 (all-edit others each.1)

-- nothing stands past the last list
none-past : (lists : List (List Taken)) (n : ℕ) → length lists ≤ n → get_or lists n [] ≡ []
none-past [] zero le = refl
none-past [] (suc n) le = refl
none-past (first ∷ others) zero le = absurd (omega (arith, le))
none-past (first ∷ others) (suc n) le = none-past others n (omega (arith, le))

pub entries_edit : (entries : List Taken) (lists : List (Vec Taken Global)) (result : Bool) → AreByDocument entries (lists_of lists) → result ≡ all_lists_edit lists
    → IsTrue result ↔ All (λ (taken : Taken). edits taken.step ≡ true) entries
entries_edit entries lists result by is =
    let docs : ℕ = length (lists_of lists) in
    let below : are_below docs entries ≡ true = all-below docs entries (λ number past. sym (by number) ∙ none-past (lists_of lists) number past) in (
      λ yes. All-from_recursion _ entries (edit-all entries (edit-own docs entries below
          (λ number lt. subst (λ l. all_edit l ≡ true) (by number) (list-at lists number (sym is ∙ yes) lt)))),
      λ each. is ∙ lists-from lists (λ n lt. subst (λ l. all_edit l ≡ true) (sym (by n)) (own-edit n entries (all-edit entries (recursion_from_All _ entries each)))),
    )
