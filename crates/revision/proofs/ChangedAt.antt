-- Lists with some items changed, by their places.
use Rattle.std.proofs.Common.{◌≡◌, ◌≢◌, ◌++◌, ℕ, zero, suc, ◌+◌, ◌<◌, ◌≤◌, ◌⊎◌, inl, inr, List, [], ◌∷◌, length, map, drop, get_or, Some, refl, sym, ap, ◌∙◌, arith}
use Rattle.std.specs.Prelude.{slice_get, slice_set}
use Rattle.std.proofs.lemmas.List.{at_drop_more}
use Rattle.std.proofs.lemmas.Option.{none-some, same_Some}
use Rattle.revision.specs.steps.ChangedAt.{changed_at, changed_at_all, IsAmong}

-- one item set to what it was, changed
pub set-changed : {X : Type 0} (change : X → X) (xs : List X) (i : ℕ) (x y : X) → i < length xs → x ≡ get_or xs i x → y ≡ change x
    → slice_set xs i y ≡ changed_at change i xs
set-changed change [] i x y inside is new = absurd (omega (arith, inside))
set-changed change (z ∷ zs) zero x y inside is new = ap (λ w. w ∷ zs) (new ∙ ap change is)
set-changed change (z ∷ zs) (suc i) x y inside is new =
    ap (λ ws. z ∷ ws) (set-changed change zs i x y (omega (arith, inside)) is new)

-- a place past the end
pub changed_at-past : {X : Type 0} (change : X → X) (xs : List X) (i : ℕ) → length xs ≤ i → xs ≡ changed_at change i xs
changed_at-past change [] i past = refl
changed_at-past change (z ∷ zs) zero past = absurd (omega (arith, past))
changed_at-past change (z ∷ zs) (suc i) past = ap (λ ws. z ∷ ws) (changed_at-past change zs i (omega (arith, past)))

-- one place more
pub changed_at_all-step : {X : Type 0} (change : X → X) (is : List ℕ) (j d : ℕ) (xs ys : List X) → j < length is
    → ys ≡ changed_at change (get_or is j d) xs → changed_at_all change (drop (j + 1) is) ys ≡ changed_at_all change (drop j is) xs
changed_at_all-step change is j d xs ys inside new =
    ap (changed_at_all change (drop (j + 1) is)) new ∙ sym (at_drop_more (λ ks. changed_at_all change ks xs) is j d inside)

-- what doesn't see the changes
pub map-changed_at : {X Y : Type 0} (f : X → Y) (change : X → X) → ((x : X) → f (change x) ≡ f x) → (i : ℕ) (xs : List X)
    → map f (changed_at change i xs) ≡ map f xs
map-changed_at f change same i [] = refl
map-changed_at f change same zero (x ∷ xs) = ap (λ y. y ∷ map f xs) (same x)
map-changed_at f change same (suc i) (x ∷ xs) = ap (λ ys. f x ∷ ys) (map-changed_at f change same i xs)

pub map-changed_at_all : {X Y : Type 0} (f : X → Y) (change : X → X) → ((x : X) → f (change x) ≡ f x) → (is : List ℕ) (xs : List X)
    → map f (changed_at_all change is xs) ≡ map f xs
map-changed_at_all f change same [] xs = refl
map-changed_at_all f change same (i ∷ is) xs = map-changed_at_all f change same is (changed_at change i xs) ∙ map-changed_at f change same i xs

pub length-changed_at : {X : Type 0} (change : X → X) (i : ℕ) (xs : List X) → length (changed_at change i xs) ≡ length xs
length-changed_at change i [] = refl
length-changed_at change zero (x ∷ xs) = refl
length-changed_at change (suc i) (x ∷ xs) = ap suc (length-changed_at change i xs)

pub length-changed_at_all : {X : Type 0} (change : X → X) (is : List ℕ) (xs : List X) → length (changed_at_all change is xs) ≡ length xs
length-changed_at_all change [] xs = refl
length-changed_at_all change (i ∷ is) xs = length-changed_at_all change is (changed_at change i xs) ∙ length-changed_at change i xs

-- what is read of the changed list: the item that was changed, or one at another place
abbrev pub ReadOfChanged : {X : Type 0} → (X → X) → ℕ → List X → ℕ → X → Type 0
ReadOfChanged {X} change i xs j y =
    ((j ≡ i) × ((x : X) × (slice_get xs j ≡ Some x) × (change x ≡ y))) ⊎ ((j ≢ i) × (slice_get xs j ≡ Some y))

pub read_of_changed : {X : Type 0} (change : X → X) (i : ℕ) (xs : List X) (j : ℕ) (y : X) → slice_get (changed_at change i xs) j ≡ Some y
    → ReadOfChanged change i xs j y
read_of_changed change i [] j y read = absurd (none-some y read)
read_of_changed change zero (x ∷ xs) zero y read = inl (refl, (x, refl, same_Some (change x) y read))
read_of_changed change zero (x ∷ xs) (suc j) y read = inr (λ e. absurd (omega (arith, e)), read)
read_of_changed change (suc i) (x ∷ xs) zero y read = inr (λ e. absurd (omega (arith, e)), read)
read_of_changed change (suc i) (x ∷ xs) (suc j) y read = further (read_of_changed change i xs j y read) where
  further : ReadOfChanged change i xs j y → ReadOfChanged change (suc i) (x ∷ xs) (suc j) y
  further (inl here) = inl (ap suc here.0, here.1)
  further (inr there) = inr (λ e. there.0 (omega (arith, e)), there.1)

pub among-more : (i : ℕ) (js : List ℕ) (j : ℕ) → IsAmong i js → IsAmong i (js ++ j ∷ [])
among-more i [] j among = absurd among
among-more i (k ∷ js) j (inl e) = inl e
among-more i (k ∷ js) j (inr among) = inr (among-more i js j among)

pub among-last : (js : List ℕ) (j : ℕ) → IsAmong j (js ++ j ∷ [])
among-last [] j = inl refl
among-last (k ∷ js) j = inr (among-last js j)

-- where nothing is changed the list stays
pub changed_at-same : {X : Type 0} (i : ℕ) (xs : List X) → changed_at (λ (x : X). x) i xs ≡ xs
changed_at-same i [] = refl
changed_at-same zero (x ∷ xs) = refl
changed_at-same (suc i) (x ∷ xs) = ap (λ ys. x ∷ ys) (changed_at-same i xs)
