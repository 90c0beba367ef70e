-- A gap form place by place, and the documents that it is defined on. Units after its last are kept as they are, with nothing
-- inserted between them.
use Rattle.std.specs.Prelude.{ℕ, zero, suc, ◌≤◌, List, [], ◌∷◌, length}
use Rattle.attributes.specs.Map.{empty}
use Rattle.delta.specs.Element.{Element}
use Rattle.delta.specs.Gaps.{Gaps, End, Gap, Fate, Keep, units_below}

-- the fate of the unit at the place
abbrev pub fate_at : Gaps → ℕ → Fate
fate_at (End xs) i = Keep empty
fate_at (Gap xs f g) zero = f
fate_at (Gap xs f g) (suc i) = fate_at g i

-- what is inserted before the unit at the place
abbrev pub inserted_at : Gaps → ℕ → List Element
inserted_at (End xs) zero = xs
inserted_at (End xs) (suc i) = []
inserted_at (Gap xs f g) zero = xs
inserted_at (Gap xs f g) (suc i) = inserted_at g i

-- the document has every unit that the gap form speaks of
abbrev pub IsDefined : List Element → Gaps → Type 0
IsDefined d g = units_below g ≤ length d

-- nothing is inserted before its first unit
abbrev pub IsBare : Gaps → Type 0
IsBare (End []) = Unit {0}
IsBare (End (x ∷ xs)) = ⊥
IsBare (Gap [] f g) = Unit {0}
IsBare (Gap (x ∷ xs) f g) = ⊥
