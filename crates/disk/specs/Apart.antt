-- Writes that lie apart from one another: where one of them wrote, no other did.
use Rattle.std.specs.Prelude.{◌≡◌, ◌⊎◌, ℕ, ◌+◌, ◌≤◌, ◌<◌, List, [], ◌∷◌, length}
use Rattle.disk.specs.Device.{State, IsCovered, IsWrite}

-- a place in a range
abbrev pub IsWithin : ℕ → ℕ → ℕ → Type 0
IsWithin at count place = (at ≤ place) × (place < at + count)

-- two ranges have no place in common
abbrev pub AreApart : ℕ → ℕ → ℕ → ℕ → Type 0
AreApart at count other size = (at + count ≤ other) ⊎ (other + size ≤ at)

-- no place of a range is in one of these
abbrev pub IsApart : ℕ → ℕ → List (ℕ × ℕ) → Type 0
IsApart at count ranges = (place : ℕ) → IsWithin at count place → ¬ IsCovered ranges place

-- the new ranges cover no place more than the old ones, but for those of one range
abbrev pub CoversMoreWithin : ℕ → ℕ → List (ℕ × ℕ) → List (ℕ × ℕ) → Type 0
CoversMoreWithin at count old new = (place : ℕ) → IsCovered new place → IsWithin at count place ⊎ IsCovered old place

-- writes of these ranges, the newest first, lead from one state to another
abbrev pub AreWrites : List (ℕ × ℕ) → State → State → Type 0
AreWrites [] old new = new ≡ old
AreWrites (range ∷ ranges) old new =
    (mid : State) × AreWrites ranges old mid × (range.0 + range.1 ≤ length old.seen) × IsWrite range.0 range.1 mid new
