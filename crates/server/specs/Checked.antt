-- What is printed of a store that is sound.
use Rattle.std.specs.Prelude.{List, ℕ, [], ◌∷◌, ◌++◌, codes}
use Rattle.std.specs.Fmt.{decimal}

-- how many documents it has and how many changes these hold, as a line
abbrev pub checked_line : ℕ → ℕ → List ℕ
checked_line documents changes = codes "ok documents " ++ (decimal documents ++ (codes " changes " ++ (decimal changes ++ 10 ∷ [])))
