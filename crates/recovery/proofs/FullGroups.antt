-- How many groups there are of milestones that are put together: all of them but the last are full.
use Rattle.std.proofs.Common.{◌≡◌, ℕ, zero, suc, ◌+◌, ◌-◌, ◌*◌, ◌/◌, ◌≤◌, ◌<◌, Option, List, [], ◌∷◌, ◌++◌, length, get_or, refl, sym, ◌∙◌, ap, arith}
use Rattle.std.specs.Prelude.{nat_lt, cond}
use Rattle.std.proofs.lemmas.List.{length-append}
use Rattle.disk.specs.declared.device.Disk.{Ghosts}
use Rattle.disk.specs.Counted.{synced_moments, syncs_of}
use Rattle.disk.specs.Crash.{history_of}
use Rattle.revision.specs.State.{State, DocumentRecord}
use Rattle.recovery.specs.declared.group.Member.{Member}
use Rattle.recovery.specs.declared.store.Store.{Store}
use Rattle.recovery.specs.Freed.{bytes_in, bytes_at, bytes_below, bytes_for, most_bytes, SyncsAtMost}
use Rattle.recovery.specs.Open.{device_of, state_of}
use Rattle.recovery.specs.steps.Freeing.{bytes_to, bytes_of, AreBounded, AreFull, SyncsBy}
use Rattle.recovery.specs.steps.Group.{IsNewestOf}

-- one document more
pub bytes_next : (marked : List ℕ) (state : State) (i : ℕ) → bytes_to marked state (i + 1) ≡ bytes_to marked state i + cond (nat_lt 0 (get_or marked i 0)) (bytes_at state i) 0
bytes_next marked state i = let next : i + 1 ≡ suc i = omega arith in ap (λ n. bytes_to marked state n) next

-- no fewer below a greater bound
pub bytes_up : (state : State) (marked : ℕ → ℕ) (low more : ℕ) → bytes_below state marked low ≤ bytes_below state marked (low + more)
bytes_up state marked low zero = let same : low + 0 ≡ low = omega arith in omega (arith, ap (λ n. bytes_below state marked n) same)
bytes_up state marked low (suc more) =
    let next : low + suc more ≡ suc (low + more) = omega arith in
    omega (arith, bytes_up state marked low more, ap (λ n. bytes_below state marked n) next)

pub bytes_within : (state : State) (marked : ℕ → ℕ) (low high : ℕ) → low ≤ high → bytes_below state marked low ≤ bytes_below state marked high
bytes_within state marked low high up =
    let sum : low + (high - low) ≡ high = omega (arith, up) in
    omega (arith, bytes_up state marked low (high - low), ap (λ n. bytes_below state marked n) sum)

-- the same where the same is marked
pub bytes_same : (state : State) (f g : ℕ → ℕ) (bound : ℕ) → ((n : ℕ) → n < bound → f n ≡ g n) → bytes_below state f bound ≡ bytes_below state g bound
bytes_same state f g zero same = refl
bytes_same state f g (suc n) same =
    let before = bytes_same state f g n (λ k below. same k (omega (arith, below))) in
    let here = ap (λ k. cond (nat_lt 0 k) (bytes_at state n) 0) (same n (omega arith)) in
    omega (arith, before, here)

pub bytes_push : (ms : List Member) (m : Member) → bytes_of (ms ++ m ∷ []) ≡ bytes_of ms + length m.bytes.items
bytes_push [] m = omega arith
bytes_push (first ∷ others) m = omega (arith, bytes_push others m)

-- all but the last have the same bytes in the same list
front_bytes : (ms front : List Member) (m last : Member) → ms ++ m ∷ [] ≡ front ++ last ∷ [] → bytes_of front ≡ bytes_of ms
front_bytes [] [] m last is = refl
front_bytes [] (first ∷ others) m last is = absurd (omega (arith, ap (λ (l : List Member). length l) is, length-append others (last ∷ [])))
front_bytes (first ∷ others) [] m last is = absurd (omega (arith, ap (λ (l : List Member). length l) is, length-append others (m ∷ [])))
front_bytes (one ∷ ms) (other ∷ front) m last is =
    let same : one ≡ other = cc in
    let behind : ms ++ m ∷ [] ≡ front ++ last ∷ [] = cc in
    omega (arith, front_bytes ms front m last behind, ap (λ (x : Member). length x.bytes.items) same)

-- where there are few bytes one member more may come
pub bounded_few : (ms : List Member) → bytes_of ms < most_bytes → AreBounded ms
bounded_few ms few front last is = omega (arith, few, ap (λ (l : List Member). bytes_of l) is, bytes_push front last)

pub bounded_push : (ms : List Member) (m : Member) → bytes_of ms < most_bytes → AreBounded (ms ++ m ∷ [])
bounded_push ms m few front last is = omega (arith, few, front_bytes ms front m last is)

-- a newest milestone has the bytes of its document
pub newest_bytes : {D : Type 0} {disk : Ghosts D} (store : Store D disk) (m : Member) → IsNewestOf store m → length m.bytes.items ≡ bytes_at (state_of store) m.document
newest_bytes store m newest =
    ap (λ (l : List ℕ). length l) newest.spells.bytes ∙ sym (ap (λ (o : Option DocumentRecord). bytes_in m.document o) newest.there)

-- a group more
module _ (marked : List ℕ) (state : State) (from end groups : ℕ) (ms : List Member) (left : from < length marked)
    (sum : bytes_to marked state from + bytes_of ms ≡ bytes_to marked state end) (so_far : AreFull marked state from groups) where
  pub full_before : most_bytes * ((groups + 1) - 1) ≤ bytes_to marked state end
  full_before = omega (arith, so_far.last left, sum)

  pub full_more : (end < length marked → most_bytes ≤ bytes_of ms) → AreFull marked state end (groups + 1)
  full_more full = record { before = full_before; last = λ more. omega (arith, so_far.last left, sum, full more) }

pub full_none : (marked : List ℕ) (state : State) → AreFull marked state 0 0
full_none marked state = record { before = omega arith; last = λ left. omega arith }

-- so there are few
pub few_groups : (groups bytes : ℕ) → most_bytes * (groups - 1) ≤ bytes → groups ≤ 1 + bytes / most_bytes
few_groups groups bytes full = omega (arith, full)

module _ {D : Type 0} {disk : Ghosts D} where
  pub by_none : (store : Store D disk) → SyncsBy 0 store store
  by_none store = record { syncs = omega arith; faults = omega arith }

  pub by_more : (groups : ℕ) (old mid new : Store D disk) → disk.faults (device_of mid) ≡ disk.faults (device_of old) → SyncsBy groups old mid → SyncsBy 1 mid new → SyncsBy (groups + 1) old new
  by_more groups old mid new good first second = record {
    syncs = omega (arith, first.syncs, second.syncs);
    faults = omega (arith, good, second.faults);
  }

  pub by_same : (groups : ℕ) (old mid new : Store D disk) → device_of new ≡ device_of mid → SyncsBy groups old mid → SyncsBy groups old new
  by_same groups old mid new same by = record {
    syncs = omega (arith, by.syncs, ap (λ d. synced_moments (history_of disk d)) same);
    faults = omega (arith, by.faults, ap disk.faults same);
  }

  -- what freeing costs
  pub syncs_none : (more : ℕ) (store : Store D disk) → SyncsAtMost more store store
  syncs_none more store = record { by_bytes = λ slot segment oldest. omega arith }

  pub syncs_few : (more : ℕ) (old new : Store D disk) → syncs_of disk (device_of new) ≤ syncs_of disk (device_of old) + more → SyncsAtMost more old new
  syncs_few more old new few = record { by_bytes = λ slot segment oldest. omega (arith, few) }

  pub syncs_more : (few more : ℕ) (old new : Store D disk) → few ≤ more → SyncsAtMost few old new → SyncsAtMost more old new
  syncs_more few more old new less syncs = record { by_bytes = λ slot segment oldest. omega (arith, less, syncs.by_bytes slot segment oldest) }

  pub syncs_on : (more few : ℕ) (old mid new : Store D disk) → SyncsAtMost more old mid → syncs_of disk (device_of new) ≤ syncs_of disk (device_of mid) + few
      → SyncsAtMost (more + few) old new
  syncs_on more few old mid new syncs behind = record { by_bytes = λ slot segment oldest. omega (arith, syncs.by_bytes slot segment oldest, behind) }

  -- of a segment that was covered by groups, or partly
  pub syncs_half : (old new : Store D disk) (segment groups : ℕ) → most_bytes * (groups - 1) ≤ bytes_for segment old → SyncsBy groups old new
      → syncs_of disk (device_of new) ≤ syncs_of disk (device_of old) + (6 * (1 + bytes_for segment old / most_bytes) + 2)
  syncs_half old new segment groups full by = omega (arith, few_groups groups (bytes_for segment old) full, by.syncs, by.faults)

  pub syncs_all : (old mid new : Store D disk) (segment groups : ℕ) → most_bytes * (groups - 1) ≤ bytes_for segment old → SyncsBy groups old mid
      → disk.faults (device_of mid) ≡ disk.faults (device_of old) → syncs_of disk (device_of new) ≤ syncs_of disk (device_of mid) + 2
      → syncs_of disk (device_of new) ≤ syncs_of disk (device_of old) + (6 * (1 + bytes_for segment old / most_bytes) + 2)
  syncs_all old mid new segment groups full by good retired = omega (arith, few_groups groups (bytes_for segment old) full, by.syncs, good, retired)
