-- What a queue of documents represents.
use Rattle.std.specs.Prelude.{◌≡◌, ℕ, List, drop, Contains}

-- how many documents it was made for, and the numbers of those that wait, in the order in which they are taken
pub record Waiting : Type 0 where
  pub room : ℕ
  pub numbers : List ℕ

-- those behind the first
abbrev pub behind_first : Waiting → Waiting
behind_first old = record old { numbers = drop 1 old.numbers }

-- Who waited waits still, and there is room for the same numbers.
pub record StaysIn (old new : Waiting) : Type 0 where
  pub room : new.room ≡ old.room
  pub wait : (number : ℕ) → Contains old.numbers number → Contains new.numbers number
