-- Commands of many documents that were taken in one order, read document by document.
use Rattle.std.specs.Prelude.{ℕ, ◌==◌, nat_lt, max, if◌then◌else◌, List, [], ◌∷◌}
use Rattle.revision.specs.Command.{Taken}

-- those of the document of a number
abbrev pub of_document : ℕ → List Taken → List Taken
of_document number [] = []
of_document number (first ∷ others) = if first.document == number then first ∷ of_document number others else of_document number others

-- those of a revision above this one
abbrev pub above : ℕ → List Taken → List Taken
above revision [] = []
above revision (first ∷ others) = if nat_lt revision first.revision then first ∷ above revision others else above revision others

-- the greatest revision of the document of a number, 0 where there is none
abbrev pub greatest : ℕ → List Taken → ℕ
greatest number [] = 0
greatest number (first ∷ others) =
    if first.document == number then max first.revision (greatest number others) else greatest number others
