-- How many numbers windows have in all.
use Rattle.std.specs.Prelude.{◌≡◌, ℕ, ◌-◌, true, List, length}
use Rattle.revision.specs.Window.{longest, Window}
use Rattle.revision.specs.Sources.{total_of, are_named}

-- how many a window has, and how many of these are more than it may have
abbrev pub numbers_in : Window → ℕ
numbers_in window = length window.revisions

abbrev pub too_many_in : Window → ℕ
too_many_in window = length window.revisions - longest

-- what a list of sources keeps, beside how many numbers their windows have: they are named, no window is too long, and the count is right
pub record Keeps (numbers : ℕ) (entries : List (List ℕ × Window)) : Type 0 where
  pub named : are_named entries ≡ true
  pub fits : total_of too_many_in entries ≡ 0
  pub counted : numbers ≡ total_of numbers_in entries
