-- What holds of a queue's fields.
use Rattle.std.specs.Prelude.{◌≡◌, ◌≤◌, ◌<◌, ℕ, Bool, true, false, List, length, get_or, All, Contains}
use Rattle.std.specs.List.{count_by}
use Rattle.std.specs.VecDeque.{deque_capacity}
use Rattle.turns.specs.declared.queue.Queue.TheInside.{Inside}
use Rattle.turns.specs.Waiting.{Waiting}

abbrev pub waiting : Inside → Waiting
waiting queue = record { room = length queue.is_in.items; numbers = queue.numbers.items }

-- how many of these marks are set
abbrev pub count_set : List Bool → ℕ
count_set marks = count_by (λ mark. mark) marks

-- There are so many places, one for each mark at least. Each number that waits has a mark, each that is marked waits, and no more
-- wait than are marked.
pub record AreMarked (places : ℕ) (marks : List Bool) (numbers : List ℕ) : Type 0 where
  pub enough : length marks ≤ places
  pub inside : All (λ number. number < length marks) numbers
  pub wait : (number : ℕ) → get_or marks number false ≡ true → Contains numbers number
  pub few : length numbers ≤ count_set marks

abbrev pub IsQueue : Inside → Type 0
IsQueue queue = AreMarked (deque_capacity queue.numbers) queue.is_in.items queue.numbers.items
