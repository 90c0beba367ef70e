use Rattle.std.proofs.Common.{◌<◌, map}
use Rattle.std.specs.Prelude.{ℕ, slice_get}
use Rattle.revision.specs.Pending.{record_of}
use Rattle.inspection.specs.Matching.{PlacesMatch}
use Rattle.inspection.proofs.matching.states_match.Given as goal

-- the documents so far match
abbrev pub invariant-loop-number : goal.invariant-loop-number
invariant-loop-number l = (place : ℕ) → place < l.number → PlacesMatch (slice_get (map record_of l.documents) place) (slice_get (map record_of l.others) place)
