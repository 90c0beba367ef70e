-- How many slots are open.
use Rattle.std.proofs.Common.{ℕ, ◌≤◌, Option, Some, None, List, [], ◌∷◌, length, arith}
use Rattle.segments.specs.Numbers.{open_count}

-- no more than there are
pub count_within : (numbers : List (Option ℕ)) → open_count numbers ≤ length numbers
count_within [] = omega arith
count_within (None ∷ numbers) = omega (arith, count_within numbers)
count_within (Some n ∷ numbers) = omega (arith, count_within numbers)
