-- Lists with some items changed, by their places.
use Rattle.std.specs.Prelude.{◌≡◌, ◌⊎◌, ℕ, zero, suc, List, [], ◌∷◌}

-- the list with the item at this place changed, where there is one
abbrev pub changed_at : {X : Type 0} → (X → X) → ℕ → List X → List X
changed_at change i [] = []
changed_at change zero (x ∷ xs) = change x ∷ xs
changed_at change (suc i) (x ∷ xs) = x ∷ changed_at change i xs

-- the list with the items at these places changed in turn
abbrev pub changed_at_all : {X : Type 0} → (X → X) → List ℕ → List X → List X
changed_at_all change [] xs = xs
changed_at_all change (i ∷ is) xs = changed_at_all change is (changed_at change i xs)

-- a number stands among others
abbrev pub IsAmong : ℕ → List ℕ → Type 0
IsAmong i [] = ⊥
IsAmong i (j ∷ js) = (i ≡ j) ⊎ IsAmong i js
