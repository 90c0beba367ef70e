-- The numbers of a ring's slots, None where a slot's gate is closed: which slot is opened next, and which one is retired.
use Rattle.std.specs.Prelude.{◌≡◌, ◌≢◌, ℕ, ◌+◌, ◌-◌, ◌<◌, ◌≤◌, ◌^◌, max, Option, Some, None, List, [], ◌∷◌, length, get_or}

-- the number of a slot; a slot that isn't there has none
abbrev pub number_at : List (Option ℕ) → ℕ → Option ℕ
number_at numbers slot = get_or numbers slot None

-- the highest number, 0 where no slot is open
abbrev pub newest_number : List (Option ℕ) → ℕ
newest_number [] = 0
newest_number (None ∷ numbers) = newest_number numbers
newest_number (Some number ∷ numbers) = max number (newest_number numbers)

-- how many slots are open
abbrev pub open_count : List (Option ℕ) → ℕ
open_count [] = 0
open_count (None ∷ numbers) = open_count numbers
open_count (Some number ∷ numbers) = 1 + open_count numbers

-- A slot is free where its gate is closed and no open slot has the number 2^64 - 1, behind which there is none.
pub record IsFree (numbers : List (Option ℕ)) (slot : ℕ) : Type 0 where
  pub there : slot < length numbers
  pub closed : number_at numbers slot ≡ None
  pub next : newest_number numbers < 2 ^ 64 - 1

-- no slot is free
abbrev pub IsFull : List (Option ℕ) → Type 0
IsFull numbers = (slot : ℕ) → ¬ IsFree numbers slot

-- What is opened next: the lowest slot that is free, under the number one above the newest segment's, 1 where none is open.
pub record IsNext (numbers : List (Option ℕ)) (slot number : ℕ) : Type 0 where
  pub free : IsFree numbers slot
  pub lowest : (other : ℕ) → other < slot → number_at numbers other ≢ None
  pub above : number ≡ newest_number numbers + 1

-- this slot is open, under the highest number of all
pub record IsNewest (numbers : List (Option ℕ)) (slot number : ℕ) : Type 0 where
  pub has : number_at numbers slot ≡ Some number
  pub highest : (other : ℕ) (n : ℕ) → number_at numbers other ≡ Some n → n ≤ number

-- this slot is open, under the lowest number of all
pub record IsOldest (numbers : List (Option ℕ)) (slot number : ℕ) : Type 0 where
  pub has : number_at numbers slot ≡ Some number
  pub lowest : (other : ℕ) (n : ℕ) → number_at numbers other ≡ Some n → number ≤ n

-- open slots have different numbers
abbrev pub NumbersDiffer : List (Option ℕ) → Type 0
NumbersDiffer numbers = (slot other number : ℕ) → number_at numbers slot ≡ Some number → number_at numbers other ≡ Some number → slot ≡ other
