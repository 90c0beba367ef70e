-- Reading of pairs and of operations one behind the other, as a loop does it.
use Rattle.std.proofs.Common.{◌≡◌, ℕ, suc, ◌-◌, ◌+◌, ◌≤◌, ◌<◌, Option, Some, None, List, [], ◌∷◌, ◌++◌, refl, sym, ◌∙◌, arith}
use Rattle.attributes.specs.Map.{Map, insert}
use Rattle.journal.specs.declared.batch.read_error.ReadError.{ReadError}
use Rattle.journal.specs.declared.batch.read_error.ReadError.TheVariants.{Malformed, NoMemory}
use Rattle.journal.specs.steps.Reading.{Fails}
use Rattle.delta.specs.Operation.{Operation}
use Rattle.journal.specs.steps.DeltaReading.{pair_at, pairs_at, operation_at, operations_at}

-- so many of the count are read, and these bytes are left
module _ {X : Type 0} (read : List ℕ → Option (X × List ℕ)) (count done : ℕ) (last : List ℕ) (front : Map X) (bytes : List ℕ) (total : Option (Map X × List ℕ)) (so_far : pairs_at read (count - done) last front bytes ≡ total) where
  pub pairs-one_more : (name : List ℕ) (x : X) (after : List ℕ) → done < count → pair_at read last bytes ≡ Some ((name, x), after) → pairs_at read (count - (done + 1)) name (insert front name x) after ≡ total
  unfolding pairs_at
  pairs-one_more name x after more found =
      let left : count - done ≡ suc (count - (done + 1)) = omega arith in
      let step : pairs_at read (count - done) last front bytes ≡ pairs_at read (count - (done + 1)) name (insert front name x) after = rw (left, found) refl in
      sym step ∙ so_far

  pub pairs-none_more : (why : ReadError) → done < count → Fails why (pair_at read last bytes) → Fails why total
  unfolding pairs_at
  pairs-none_more NoMemory more found = tt
  pairs-none_more Malformed more found =
      let left : count - done ≡ suc (count - (done + 1)) = omega arith in
      let step : pairs_at read (count - done) last front bytes ≡ None = rw (left, found) refl in
      sym so_far ∙ step

  pub pairs-all_read : count ≤ done → total ≡ Some (front, bytes)
  unfolding pairs_at
  pairs-all_read enough =
      let left : count - done ≡ 0 = omega arith in
      let step : pairs_at read (count - done) last front bytes ≡ Some (front, bytes) = rw left refl in
      sym so_far ∙ step

module _ (count done : ℕ) (front : List Operation) (bytes : List ℕ) (total : Option (List Operation × List ℕ)) (so_far : operations_at (count - done) front bytes ≡ total) where
  pub operations-one_more : (first : Operation) (after : List ℕ) → done < count → operation_at bytes ≡ Some (first, after) → operations_at (count - (done + 1)) (front ++ first ∷ []) after ≡ total
  unfolding operations_at
  operations-one_more first after more found =
      let left : count - done ≡ suc (count - (done + 1)) = omega arith in
      let step : operations_at (count - done) front bytes ≡ operations_at (count - (done + 1)) (front ++ first ∷ []) after = rw (left, found) refl in
      sym step ∙ so_far

  pub operations-none_more : (why : ReadError) → done < count → Fails why (operation_at bytes) → Fails why total
  unfolding operations_at
  operations-none_more NoMemory more found = tt
  operations-none_more Malformed more found =
      let left : count - done ≡ suc (count - (done + 1)) = omega arith in
      let step : operations_at (count - done) front bytes ≡ None = rw (left, found) refl in
      sym so_far ∙ step

  pub operations-all_read : count ≤ done → total ≡ Some (front, bytes)
  unfolding operations_at
  operations-all_read enough =
      let left : count - done ≡ 0 = omega arith in
      let step : operations_at (count - done) front bytes ≡ Some (front, bytes) = rw left refl in
      sym so_far ∙ step
