-- Where a delta cuts a pair of a document, and what it inserts at each place.
use Rattle.std.specs.Prelude.{◌≢◌, ℕ, suc, ◌⊎◌, List, []}
use Rattle.delta.specs.Element.{Element}
use Rattle.delta.specs.Gaps.{Gaps}
use Rattle.delta.specs.Places.{fate_at, inserted_at}
use Rattle.document.specs.Pairs.{IsPairAt, IsWellFormed}

-- some pair of the document has two fates, or something is inserted between its two units
abbrev pub Cuts : List Element → Gaps → Type 0
Cuts d g = (i : ℕ) × IsPairAt d i × ((fate_at g i ≢ fate_at g (suc i)) ⊎ (inserted_at g (suc i) ≢ []))

-- what is inserted at each place is well formed
abbrev pub InsertsWellFormed : Gaps → Type 0
InsertsWellFormed g = (i : ℕ) → IsWellFormed (inserted_at g i)
