-- Sums of widths.
use Rattle.std.proofs.Common.{◌≡◌, ℕ, zero, suc, ◌+◌, ◌<◌, ◌≤◌, List, [], ◌∷◌, length, take, sum_by, get_or, add-one, arith}
use Rattle.std.proofs.lemmas.List.Sums.{sum_by-cons}
use Rattle.delta.specs.Operation.{Operation, insert_text, insert_embed, retain, delete}
use Rattle.revision.specs.Width.{pair_width, operation_width}

module _ {X : Type 0} (f : X → ℕ) where
  more : (xs : List X) (i : ℕ) (d : X) → i < length xs → sum_by f (take (suc i) xs) ≡ sum_by f (take i xs) + f (get_or xs i d)
  more [] i d lt = absurd (omega arith)
  more (x ∷ xs) zero d lt = omega (arith, sum_by-cons f x [])
  more (x ∷ xs) (suc i) d lt =
      omega (arith, sum_by-cons f x (take (suc i) xs), sum_by-cons f x (take i xs), more xs i d (omega arith))

  -- one more of them
  pub sum_by-more : (xs : List X) (i : ℕ) (d : X) → i < length xs → sum_by f (take (i + 1) xs) ≡ sum_by f (take i xs) + f (get_or xs i d)
  sum_by-more xs i d lt = rw add-one (more xs i d lt)

  -- where each is 1 or more, the sum is no less than their number
  pub length-le-sum_by : ((x : X) → 1 ≤ f x) → (xs : List X) → length xs ≤ sum_by f xs
  length-le-sum_by some [] = omega arith
  length-le-sum_by some (x ∷ xs) = omega (arith, some x, sum_by-cons f x xs, length-le-sum_by some xs)

pub pair_width-some : {X : Type 0} (f : X → ℕ) (p : List ℕ × X) → 1 ≤ pair_width f p
pair_width-some f p = omega arith

pub operation_width-some : (op : Operation) → 1 ≤ operation_width op
operation_width-some (insert_text us a) = omega arith
operation_width-some (insert_embed name v a) = omega arith
operation_width-some (retain n c) = omega arith
operation_width-some (delete n) = omega arith
