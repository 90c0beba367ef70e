-- The commands of a document, in two parts, and by their revisions.
use Rattle.std.proofs.Common.{◌≡◌, ℕ, zero, suc, ◌+◌, ◌-◌, ◌≤◌, ◌<◌, Bool, true, false, cond, List, [], ◌∷◌, ◌++◌, drop, Option, refl, sym, ap, ◌∙◌, ⊎_elim, arith}
use Rattle.std.specs.Prelude.{◌==◌, nat_lt}
use Rattle.std.proofs.lemmas.Bool.{and_parts, and_from, lt-ltb, le-ltb, cases_lt}
use Rattle.revision.specs.Command.{Taken}
use Rattle.revision.specs.State.{Limits, DocumentRecord, newest_revision, continues, record_after, all_continue, record_after_all}
use Rattle.history.specs.Entries.{of_document, above}
use Rattle.history.proofs.Showing.{next-revision, newest-after}

-- commands after others
pub after-append : (keep : ℕ) (found : Option DocumentRecord) (first others : List Taken)
    → record_after_all keep found (first ++ others) ≡ record_after_all keep (record_after_all keep found first) others
after-append keep found [] others = refl
after-append keep found (taken ∷ more) others = after-append keep (record_after keep found taken) more others

pub continue-split : (limits : Limits) (found : Option DocumentRecord) (first others : List Taken) → all_continue limits found (first ++ others) ≡ true
    → (all_continue limits found first ≡ true) × (all_continue limits (record_after_all limits.keep found first) others ≡ true)
continue-split limits found [] others h = (refl, h)
continue-split limits found (taken ∷ more) others h =
    let parts = and_parts (continues limits found taken) (all_continue limits (record_after limits.keep found taken) (more ++ others)) h in
    let later = continue-split limits (record_after limits.keep found taken) more others parts.1 in
    (and_from _ _ parts.0 later.0, later.1)

pub continue-join : (limits : Limits) (found : Option DocumentRecord) (first others : List Taken) → all_continue limits found first ≡ true
    → all_continue limits (record_after_all limits.keep found first) others ≡ true → all_continue limits found (first ++ others) ≡ true
continue-join limits found [] others h more = more
continue-join limits found (taken ∷ rest) others h more =
    let parts = and_parts (continues limits found taken) (all_continue limits (record_after limits.keep found taken) rest) h in
    and_from _ _ parts.0 (continue-join limits (record_after limits.keep found taken) rest others parts.1 more)

cond-append : {A : Type 0} (b : Bool) (x : A) (xs ys : List A) → cond b (x ∷ (xs ++ ys)) (xs ++ ys) ≡ cond b (x ∷ xs) xs ++ ys
cond-append true x xs ys = refl
cond-append false x xs ys = refl

pub of_document-append : (number : ℕ) (first others : List Taken) → of_document number (first ++ others) ≡ of_document number first ++ of_document number others
of_document-append number [] others = refl
of_document-append number (taken ∷ more) others =
    ap (λ l. cond (taken.document == number) (taken ∷ l) l) (of_document-append number more others)
    ∙ cond-append (taken.document == number) taken (of_document number more) (of_document number others)

-- no revision below is passed over, and below it all are
pub above-none : (limits : Limits) (found : Option DocumentRecord) (others : List Taken) (revision : ℕ) → all_continue limits found others ≡ true
    → revision ≤ newest_revision found → above revision others ≡ others
above-none limits found [] revision h below = refl
above-none limits found (first ∷ others) revision h below =
    let parts = and_parts (continues limits found first) (all_continue limits (record_after limits.keep found first) others) h in
    let number : first.revision ≡ newest_revision found + 1 = next-revision limits found first parts.0 in
    let kept : nat_lt revision first.revision ≡ true = lt-ltb revision first.revision (omega (arith, number, below)) in
    let later = above-none limits (record_after limits.keep found first) others revision parts.1 (omega (arith, below, newest-after limits found first parts.0)) in
    ap (λ b. cond b (first ∷ above revision others) (above revision others)) kept ∙ ap (λ l. first ∷ l) later

pub above-drop : (limits : Limits) (found : Option DocumentRecord) (others : List Taken) (revision : ℕ) → all_continue limits found others ≡ true
    → newest_revision found ≤ revision → above revision others ≡ drop (revision - newest_revision found) others
above-drop limits found [] revision h over = sym (nothing (revision - newest_revision found))
  where
    nothing : (n : ℕ) → ◌≡◌ {A = List Taken} (drop n []) []
    nothing zero = refl
    nothing (suc n) = refl
above-drop limits found (first ∷ others) revision h over =
    let parts = and_parts (continues limits found first) (all_continue limits (record_after limits.keep found first) others) h in
    let number : first.revision ≡ newest_revision found + 1 = next-revision limits found first parts.0 in
    let more : newest_revision (record_after limits.keep found first) ≡ newest_revision found + 1 = newest-after limits found first parts.0 in
    ⊎_elim
    (λ (under : revision < newest_revision found + 1).
    let kept : nat_lt revision first.revision ≡ true = lt-ltb revision first.revision (omega (arith, number, under)) in
    let none : revision - newest_revision found ≡ 0 = omega (arith, under, over) in
    ap (λ b. cond b (first ∷ above revision others) (above revision others)) kept
    ∙ (ap (λ l. first ∷ l) (above-none limits (record_after limits.keep found first) others revision parts.1 (omega (arith, under, more)))
    ∙ sym (ap (λ n. drop n (first ∷ others)) none)))
    (λ (past : newest_revision found + 1 ≤ revision).
    let passed : nat_lt revision first.revision ≡ false = le-ltb revision first.revision (omega (arith, number, past)) in
    let count : suc (revision - newest_revision (record_after limits.keep found first)) ≡ revision - newest_revision found = omega (arith, more, past) in
    ap (λ b. cond b (first ∷ above revision others) (above revision others)) passed
    ∙ (above-drop limits (record_after limits.keep found first) others revision parts.1 (omega (arith, past, more))
    ∙ ap (λ n. drop n (first ∷ others)) count))
    (cases_lt revision (newest_revision found + 1))
