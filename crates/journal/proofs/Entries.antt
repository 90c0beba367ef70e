-- Reading of entries one behind the other, as a loop does it.
use Rattle.std.proofs.Common.{◌≡◌, ℕ, suc, ◌-◌, ◌+◌, ◌≤◌, ◌<◌, Option, Some, None, List, [], ◌∷◌, ◌++◌, refl, sym, ap, ◌∙◌, append_assoc, arith}
use Rattle.std.proofs.lemmas.List.{append-nil}
use Rattle.journal.specs.declared.batch.read_error.ReadError.{ReadError}
use Rattle.journal.specs.declared.batch.read_error.ReadError.TheVariants.{Malformed, NoMemory}
use Rattle.revision.specs.Command.{Taken}
use Rattle.journal.specs.steps.Reading.{◌>>=◌, Fails}
use Rattle.journal.specs.steps.BatchReading.{entry_at, entries_at}

-- the commands that were read before, and those that are still read
abbrev pub behind : List Taken → Option (List Taken × List ℕ) → Option (List Taken × List ℕ)
behind front read = read >>= λ x. Some (front ++ x.0, x.1)

behind-cons : (front : List Taken) (first : Taken) (read : Option (List Taken × List ℕ)) → behind front (read >>= λ x. Some (first ∷ x.0, x.1)) ≡ behind (front ++ first ∷ []) read
behind-cons front first (Some x) = ap (λ (all : List Taken). Some (all, x.1)) (simp append_assoc)
behind-cons front first None = refl

-- so many of the count are read, and these bytes are left
module _ (front : List Taken) (count done : ℕ) (bytes : List ℕ) (total : Option (List Taken × List ℕ)) (so_far : behind front (entries_at (count - done) bytes) ≡ total) where
  pub one_more : (first : Taken) (after : List ℕ) → done < count → entry_at bytes ≡ Some (first, after) → behind (front ++ first ∷ []) (entries_at (count - (done + 1)) after) ≡ total
  unfolding entries_at
  one_more first after more read =
      let left : count - done ≡ suc (count - (done + 1)) = omega arith in
      let step : behind front (entries_at (count - done) bytes) ≡ behind (front ++ first ∷ []) (entries_at (count - (done + 1)) after) = rw (left, read) (behind-cons front first (entries_at (count - (done + 1)) after)) in
      sym step ∙ so_far

  pub none_more : (why : ReadError) → done < count → Fails why (entry_at bytes) → Fails why total
  unfolding entries_at
  none_more NoMemory more read = tt
  none_more Malformed more read =
      let left : count - done ≡ suc (count - (done + 1)) = omega arith in
      let step : behind front (entries_at (count - done) bytes) ≡ None = rw (left, read) refl in
      sym so_far ∙ step

  pub all_read : count ≤ done → total ≡ Some (front, bytes)
  unfolding entries_at
  all_read enough =
      let left : count - done ≡ 0 = omega arith in
      let step : behind front (entries_at (count - done) bytes) ≡ Some (front, bytes) = rw left (ap (λ (all : List Taken). Some (all, bytes)) (append-nil front)) in
      sym so_far ∙ step
