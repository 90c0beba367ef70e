-- Documents that match place by place.
use Rattle.std.proofs.Common.{◌≡◌, ℕ, zero, suc, ◌<◌, Some, List, [], ◌∷◌, length, map, refl, sym, ◌∙◌, ap, subst, arith}
use Rattle.std.specs.Prelude.{slice_get}
use Rattle.std.proofs.lemmas.List.{length-map}
use Rattle.revision.specs.Pending.{PendingDocument, record_of}
use Rattle.revision.specs.State.{DocumentRecord, State}
use Rattle.inspection.specs.Matching.{DocumentsMatch, PlacesMatch, Match}

-- as many
pub as_many : (s t : List DocumentRecord) → ((place : ℕ) → PlacesMatch (slice_get s place) (slice_get t place)) → length s ≡ length t
as_many [] [] each = refl
as_many [] (y ∷ t) each = absurd (each zero)
as_many (x ∷ s) [] each = absurd (each zero)
as_many (x ∷ s) (y ∷ t) each = ap suc (as_many s t (λ place. each (suc place)))

-- those that match as far as both go match everywhere
pub all_match : (s t : List DocumentRecord) → length s ≡ length t → ((place : ℕ) → place < length s → PlacesMatch (slice_get s place) (slice_get t place))
    → (place : ℕ) → PlacesMatch (slice_get s place) (slice_get t place)
all_match [] [] same each place = tt
all_match [] (y ∷ t) same each place = absurd (omega (arith, same))
all_match (x ∷ s) [] same each place = absurd (omega (arith, same))
all_match (x ∷ s) (y ∷ t) same each zero = each zero (omega arith)
all_match (x ∷ s) (y ∷ t) same each (suc place) = all_match s t (omega (arith, same)) (λ p inside. each (suc p) (omega (arith, inside))) place

module _ (documents others : List PendingDocument) (s t : State) (one : map record_of documents ≡ s.documents) (other : map record_of others ≡ t.documents) where
  pub lengths_match : Match s t → length documents ≡ length others
  lengths_match alike =
      sym (length-map documents record_of) ∙ ap (λ (l : List DocumentRecord). length l) one ∙ as_many s.documents t.documents alike.documents
      ∙ ap (λ (l : List DocumentRecord). length l) (sym other) ∙ length-map others record_of

  -- what both have at a place matches
  pub place_matches : (place : ℕ) (a b : DocumentRecord) → slice_get (map record_of documents) place ≡ Some a → slice_get (map record_of others) place ≡ Some b
      → Match s t → DocumentsMatch a b
  place_matches place a b is_a is_b alike =
      let left = ap (λ (l : List DocumentRecord). slice_get l place) (sym one) ∙ is_a in
      let right = ap (λ (l : List DocumentRecord). slice_get l place) (sym other) ∙ is_b in
      subst (λ o. PlacesMatch (Some a) o) right (subst (λ o. PlacesMatch o (slice_get t.documents place)) left (alike.documents place))

  pub states_alike : s.limits ≡ t.limits → length documents ≡ length others
      → ((place : ℕ) → place < length documents → PlacesMatch (slice_get (map record_of documents) place) (slice_get (map record_of others) place)) → Match s t
  states_alike limits same each = record {
    limits = limits;
    documents = λ place.
        subst (λ (l : List DocumentRecord). PlacesMatch (slice_get s.documents place) (slice_get l place)) other
        (subst (λ (l : List DocumentRecord). PlacesMatch (slice_get l place) (slice_get (map record_of others) place)) one
        (all_match (map record_of documents) (map record_of others) (length-map documents record_of ∙ same ∙ sym (length-map others record_of))
        (λ p inside. each p (omega (arith, inside, length-map documents record_of))) place));
  }
