-- What fits a flusher's cap fits a slot.
use Rattle.std.proofs.Common.{◌≤◌, ◌<◌, ℕ, ◌+◌, ◌^◌, List, [], ◌∷◌, length, arith}
use Rattle.std.specs.List.{fold}
use Rattle.revision.specs.Command.{Taken, width_of}
use Rattle.revision.specs.State.{State}
use Rattle.journal.specs.BatchSpelling.{batch_width}
use Rattle.recovery.specs.Open.{FitsSlot}
use Rattle.flusher.specs.Flushers.{cap_of}

longer_than : (acc : ℕ) (xs : List Taken) → acc + length xs ≤ fold (λ a x. a + width_of x) acc xs
longer_than acc [] = omega arith
longer_than acc (x ∷ xs) =
    let more = longer_than (acc + width_of x) xs in
    let some : 1 ≤ width_of x = omega arith in
    omega (arith, more, some)

-- a batch has no more commands than bytes
pub counts_less : (batch : List Taken) → length batch ≤ batch_width batch
counts_less batch = omega (arith, longer_than 0 batch)

-- what fits the cap fits a slot, and its count has four bytes
pub fits_slot : (state : State) (batch : List Taken) → batch_width batch ≤ cap_of state → (length batch < 2 ^ 32) × FitsSlot state batch
fits_slot state batch le = (omega (arith, le, counts_less batch), omega (arith, le))
