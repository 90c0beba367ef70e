-- Room in a list that is to be filled.
use Rattle.std.specs.Prelude.{◌≡◌, ◌≤◌, ◌+◌, ℕ, [], Vec, vec_items, vec_len, vec_capacity}

-- the list is empty, and so many items take no memory
abbrev pub HasRoom : {X Z : Type 0} → ℕ → Vec X Z → Type 0
HasRoom count list = (vec_items list ≡ []) × (vec_len list + count ≤ vec_capacity list)
