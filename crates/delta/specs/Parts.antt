-- An operation in two parts: what it does to its first units, and what it does to the others.
use Rattle.std.specs.Prelude.{ℕ, ◌-◌, ◌<◌, List, ◌∷◌, length, take, drop, nat_lt, if◌then◌else◌}
use Rattle.utf16.specs.Units.{IsInPair}
use Rattle.delta.specs.Operation.{Operation, insert_text, insert_embed, retain, delete, op_len}

-- what it does to its first n units
abbrev pub first_units : ℕ → Operation → Operation
first_units n (insert_text us a) = insert_text (take n us) a
first_units n (insert_embed key value a) = insert_embed key value a
first_units n (retain m c) = retain n c
first_units n (delete m) = delete n

-- what it does to the others
abbrev pub last_units : ℕ → Operation → Operation
last_units n (insert_text us a) = insert_text (drop n us) a
last_units n (insert_embed key value a) = insert_embed key value a
last_units n (retain m c) = retain (m - n) c
last_units n (delete m) = delete (m - n)

-- what is left of operations after the first n units of the first of them
abbrev pub left_after : ℕ → Operation → List Operation → List Operation
left_after n op ops = if nat_lt n (op_len op) then last_units n op ∷ ops else ops

-- its first n units end within a pair of the text that it inserts
abbrev pub EndsInPair : ℕ → Operation → Type 0
EndsInPair n (insert_text us a) = (n < length us) × IsInPair us n
EndsInPair n _ = ⊥
