-- An index of names: which number a name has among names in order.
use Rattle.std.specs.Prelude.{◌≡◌, ℕ, ◌+◌, ◌∷◌, [], List, Option, Some, None, if◌then◌else◌, bytes_eq}

-- the number of the first name that is the one looked for, counted from this one on
abbrev pub number_of : List ℕ → ℕ → List (List ℕ) → Option ℕ
number_of name number [] = None
number_of name number (first ∷ others) = if bytes_eq first name then Some number else number_of name (number + 1) others

-- no name stands there twice
abbrev pub NoneTwice : List (List ℕ) → Type 0
NoneTwice [] = Unit {0}
NoneTwice (first ∷ others) = (number_of first 0 others ≡ None) × NoneTwice others

-- the index finds each name where it stands, and no other
abbrev pub IsIndex : (List ℕ → Option ℕ) → List (List ℕ) → Type 0
IsIndex index names = (name : List ℕ) → index name ≡ number_of name 0 names
