-- The bytes that an append writes behind a record's gate.
use Rattle.std.specs.Prelude.{◌≡◌, ℕ, ◌-◌, List, [], ◌∷◌, ◌++◌, length, take, drop}
use Rattle.journal.specs.Area.{frame, IsBody}

-- what stands between a length of four bytes and the last byte
abbrev pub body_of : List ℕ → List ℕ
body_of bytes = take (length bytes - 5) (drop 4 bytes)

-- the length and the body of a record, and the closed gate of the next one
pub record IsRecord (bytes : List ℕ) : Type 0 where
  pub is : bytes ≡ frame (body_of bytes) ++ 0 ∷ []
  pub body : IsBody (body_of bytes)
