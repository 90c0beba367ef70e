-- How many calls and syncs a write and a sync cost, as far as a device tells.
use Rattle.std.proofs.Common.{◌≡◌, ℕ, ◌+◌, ◌≤◌, List, length, ap, arith}
use Rattle.disk.specs.Counted.{is_synced, synced_states, synced_moments}
use Rattle.disk.specs.Device.{State, History, IsWrite, IsSync, IsAtMostOneStep, NoStep, OneStep}

pub one_told : {Step : State → State → Type 0} {old new : History} → IsAtMostOneStep Step old new → length new.past ≤ length old.past + 1
one_told (NoStep same) = let past = ap (λ (h : History). length h.past) same in omega (arith, past)
one_told (OneStep more step) = let past = ap (λ (l : List State). length l) more in omega (arith, past)

pub costs_write : (at count : ℕ) (old new : History) → IsAtMostOneStep (IsWrite at count) old new → (length new.past ≤ length old.past + 1) × (synced_moments new ≤ synced_moments old)
costs_write at count old new time = (one_told time, syncs time)
  where
    syncs : IsAtMostOneStep (IsWrite at count) old new → synced_moments new ≤ synced_moments old
    syncs (NoStep same) = let moments : synced_moments new ≡ synced_moments old = ap synced_moments same in omega (arith, moments)
    syncs (OneStep more step) =
        let here : is_synced new.now.unsynced ≡ 0 = ap is_synced step.unsynced in
        let before : synced_states new.past ≡ synced_moments old = ap synced_states more in
        omega (arith, here, before)

pub costs_sync : (old new : History) → IsAtMostOneStep IsSync old new → (length new.past ≤ length old.past + 1) × (synced_moments new ≤ synced_moments old + 1)
costs_sync old new time = (one_told time, syncs time)
  where
    syncs : IsAtMostOneStep IsSync old new → synced_moments new ≤ synced_moments old + 1
    syncs (NoStep same) = let moments : synced_moments new ≡ synced_moments old = ap synced_moments same in omega (arith, moments)
    syncs (OneStep more step) =
        let here : is_synced new.now.unsynced ≡ 1 = ap is_synced step.unsynced in
        let before : synced_states new.past ≡ synced_moments old = ap synced_states more in
        omega (arith, here, before)
