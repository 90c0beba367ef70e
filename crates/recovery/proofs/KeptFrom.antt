-- Steps of a run that stay from a moment on.
use Rattle.std.proofs.Common.{◌≡◌, inl, inr, ℕ, ◌+◌, ◌≤◌, List, length, take, sym, subst, arith}
use Rattle.std.proofs.lemmas.Bool.{cases_eq}
use Rattle.disk.specs.declared.device.Disk.{Ghosts}
use Rattle.disk.specs.Crash.{LeavesOnly, history_of}
use Rattle.disk.proofs.CallerLemmas.{begins, leaves_map, goes_on_run}
use Rattle.revision.specs.State.{State}
use Rattle.recovery.specs.declared.run.StoreStep.{StoreStep}
use Rattle.recovery.specs.declared.store.Store.{Store}
use Rattle.recovery.specs.Found.{FoundAs}
use Rattle.recovery.specs.Open.{IsOpen, device_of, state_of}
use Rattle.recovery.specs.Run.{AreTaken, IsAfterSome, IsKeptFrom, state_after}
use Rattle.recovery.proofs.Runs.{found_as, found_open}

-- no fewer than some are no fewer than fewer
pub fewer_of : (least count : ℕ) (state : State) (steps : List StoreStep) (content : List ℕ) → count ≤ least → IsAfterSome least state steps content → IsAfterSome count state steps content
fewer_of least count state steps content below after = record { count = after.count; enough = omega (arith, below, after.enough); within = after.within; found = after.found }

module _ {D : Type 0} {disk : Ghosts D} (steps : List StoreStep) (old : Store D disk) where
  -- the moment at which so many steps were taken
  pub kept_here : (mid : Store D disk) (count : ℕ) → count ≤ length steps → IsOpen mid → state_of mid ≡ state_after (state_of old) (take count steps) → AreTaken (take count steps) old mid
      → LeavesOnly disk (IsAfterSome 0 (state_of old) steps) (device_of old) (device_of mid) → IsKeptFrom count steps old mid
  kept_here mid count within is_open state taken before = record {
    mid = mid;
    taken = taken;
    before = before;
    later = begins (history_of disk (device_of mid)) is_open.synced (record {
      count = count;
      enough = omega arith;
      within = within;
      found = subst (FoundAs (disk.seen (device_of mid))) state (found_as _ _ (found_open mid is_open));
    });
  }

  -- and over a step after it
  pub kept_on : (now new : Store D disk) (least count : ℕ) → count ≤ least → IsKeptFrom count steps old now
      → LeavesOnly disk (IsAfterSome least (state_of old) steps) (device_of now) (device_of new) → IsKeptFrom count steps old new
  kept_on now new least count below kept moments = record {
    mid = kept.mid;
    taken = kept.taken;
    before = kept.before;
    later = goes_on_run kept.later (leaves_map (λ content after. fewer_of least count (state_of old) steps content below after) moments);
  }

  -- one step more was taken
  pub kept_more : (now new : Store D disk) (at : ℕ) → ((count : ℕ) → count ≤ at → IsKeptFrom count steps old now)
      → LeavesOnly disk (IsAfterSome at (state_of old) steps) (device_of now) (device_of new) → IsKeptFrom (at + 1) steps old new
      → (count : ℕ) → count ≤ at + 1 → IsKeptFrom count steps old new
  kept_more now new at kept moments last count below = elim (cases_eq count (at + 1)) [
    | inl same ↦ subst (λ n. IsKeptFrom n steps old new) (sym same) last
    | inr other ↦
        let fewer : count ≤ at = omega (arith, below, other) in
        kept_on now new at count fewer (kept count fewer) moments
  ]
