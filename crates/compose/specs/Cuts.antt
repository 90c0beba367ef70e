-- Where the second of two deltas cuts a surrogate pair of the text that the first inserts.
use Rattle.std.specs.Prelude.{◌⊎◌, List}
use Rattle.delta.specs.Operation.{Operation}
use Rattle.delta.specs.Gaps.{Gaps, End, Gap, Del, Keep, counted}
use Rattle.document.specs.Places.{Cuts}
use Rattle.compose.specs.Places.{tail}
use Rattle.compose.specs.Composed.{beyond}

-- what the first inserts at some place is a document of its own, and there the second cuts a pair of it
abbrev pub CutsInserted : Gaps → Gaps → Type 0
CutsInserted (End xs) b = Cuts xs b
CutsInserted (Gap xs Del g) b = Cuts xs b ⊎ CutsInserted g (beyond xs b)
CutsInserted (Gap xs (Keep c) g) b = Cuts xs b ⊎ CutsInserted g (tail (beyond xs b))

-- the same of operations
abbrev pub CutsText : List Operation → List Operation → Type 0
CutsText first second = CutsInserted (counted first) (counted second)
