-- A state is copied document by document: each is new to those before it.
use Rattle.std.proofs.Common.{◌≡◌, ℕ, zero, suc, ◌+◌, ◌<◌, Bool, true, false, cond, List, [], ◌∷◌, ◌++◌, length, map, take, get_or, Option, Some, refl, sym, ap, ◌∙◌, arith, subst}
use Rattle.std.specs.Prelude.{bytes_eq, is_none, option_map, slice_get}
use Rattle.std.proofs.Math.Seq.{take-suc}
use Rattle.std.proofs.lemmas.Option.{slice_get_read, slice_get-map, slice_get_within, get_or_from_slice_get}
use Rattle.std.proofs.lemmas.Slice.Eq.{bytes_eq-Decides}
use Rattle.revision.specs.Invariants.{NamesDiffer}
use Rattle.revision.specs.Pending.{PendingDocument, record_of}
use Rattle.revision.specs.State.{DocumentRecord, find}

-- no document of this name among the first
unnamed-before : (name : List ℕ) (k : ℕ) (documents : List DocumentRecord) (i : ℕ)
    → ((j : ℕ) (a : DocumentRecord) → j < i → slice_get documents j ≡ Some a → a.name ≡ name → ⊥)
    → is_none (find name k (take i documents)) ≡ true
unnamed-before name k [] zero other = refl
unnamed-before name k [] (suc i) other = refl
unnamed-before name k (first ∷ others) zero other = refl
unnamed-before name k (first ∷ others) (suc i) other =
    by_test (unnamed-before name (k + 1) others i (λ j a less at is. other (suc j) a (omega (arith, less)) at is)) (bytes_eq first.name name) refl
  where
    by_test : is_none (find name (k + 1) (take i others)) ≡ true → (t : Bool) → bytes_eq first.name name ≡ t
        → is_none (cond t (Some (k, first)) (find name (k + 1) (take i others))) ≡ true
    by_test rest true same = absurd (other 0 first (omega arith) refl ((bytes_eq-Decides first.name name).0 same))
    by_test rest false _ = rest

pub new-to-those-before : (documents : List DocumentRecord) (i : ℕ) (d : DocumentRecord) → NamesDiffer documents → slice_get documents i ≡ Some d
    → is_none (find d.name 0 (take i documents)) ≡ true
new-to-those-before documents i d differ at =
    unnamed-before d.name 0 documents i (λ j a less there is.
    let same : j ≡ i = differ j i a d there at is in
    absurd (omega (arith, less, same)))

-- the document at a place, of those that are held
pub record_of-at : (items : List PendingDocument) (i : ℕ) (item : PendingDocument) (documents : List DocumentRecord) → i < length items → item ≡ get_or items i item
    → map record_of items ≡ documents → slice_get documents i ≡ Some (record_of item)
record_of-at items i item documents within is held-are =
    ap (λ (l : List DocumentRecord). slice_get l i) (sym held-are)
    ∙ (slice_get-map record_of items i ∙ ap (λ (o : Option PendingDocument). option_map record_of o) (slice_get_read items (length items) i item refl within is))

pub one-more : (documents : List DocumentRecord) (i : ℕ) (d : DocumentRecord) → slice_get documents i ≡ Some d
    → take i documents ++ d ∷ [] ≡ take (i + 1) documents
one-more documents i d at =
    let next : suc i ≡ i + 1 = omega arith in
    subst (λ n. take i documents ++ d ∷ [] ≡ take n documents) next
    (sym (take-suc documents i d (slice_get_within documents i d at)
    ∙ ap (λ (e : DocumentRecord). take i documents ++ e ∷ []) (get_or_from_slice_get documents i d d at)))
