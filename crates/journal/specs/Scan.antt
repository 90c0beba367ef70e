-- Words for reading an area back.
use Rattle.std.specs.Prelude.{ℕ, List, map, Vec}
use Rattle.std.specs.declared.alloc.Global.{Global}

-- the bytes of each vector
abbrev pub items_of : List (Vec ℕ Global) → List (List ℕ)
items_of vectors = map (λ v. v.items) vectors
