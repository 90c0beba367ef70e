-- Searches for the oldest segment and for the newest, as far as they have come.
use Rattle.std.specs.Prelude.{◌≡◌, ℕ, ◌<◌, ◌≤◌, Option, Some, None, List, length}
use Rattle.segments.specs.Numbers.{number_at}

-- of the slots below this one: none is open, or the one found has the lowest number
abbrev pub IsOldestSoFar : List (Option ℕ) → ℕ → Option (ℕ × ℕ) → Type 0
IsOldestSoFar numbers below None = (slot : ℕ) → slot < below → number_at numbers slot ≡ None
IsOldestSoFar numbers below (Some found) =
    (found.0 < length numbers) × (number_at numbers found.0 ≡ Some found.1)
    × ((slot n : ℕ) → slot < below → number_at numbers slot ≡ Some n → found.1 ≤ n)

-- the same for the highest number
abbrev pub IsNewestSoFar : List (Option ℕ) → ℕ → Option (ℕ × ℕ) → Type 0
IsNewestSoFar numbers below None = (slot : ℕ) → slot < below → number_at numbers slot ≡ None
IsNewestSoFar numbers below (Some found) =
    (found.0 < length numbers) × (number_at numbers found.0 ≡ Some found.1)
    × ((slot n : ℕ) → slot < below → number_at numbers slot ≡ Some n → n ≤ found.1)
