-- How many calls and syncs of a device are told of by a write, and by a sync.
use Rattle.std.proofs.Common.{◌≡◌, ℕ, ◌+◌, ◌≤◌, ◌<◌, min, List, ◌∷◌, length, sym, ◌∙◌, ap, arith}
use Rattle.std.specs.Prelude.{Result, Ok, Err, OnOk, OnErr}
use Rattle.disk.specs.Device.{History, IsWrite, IsSync, IsAtMostOneStep, NoStep, OneStep, most_faults}
use Rattle.disk.specs.Counted.{is_synced, synced_states, synced_moments}
use Rattle.journal.proofs.Gated.{one_more}

-- a write adds no synced moment
pub write_syncs : {at count : ℕ} {old new : History} → IsAtMostOneStep (IsWrite at count) old new → synced_moments new ≤ synced_moments old
write_syncs {old = old} {new = new} (NoStep same) = let syncs : synced_moments new ≡ synced_moments old = ap synced_moments same in omega (arith, syncs)
write_syncs {at} {count} {old} {new} (OneStep more step) =
    let here : is_synced new.now.unsynced ≡ 0 = ap is_synced step.unsynced in
    let before : synced_states new.past ≡ synced_moments old = ap synced_states more in
    omega (arith, here, before)

-- a sync adds one at most
pub sync_syncs : {old new : History} → IsAtMostOneStep IsSync old new → synced_moments new ≤ synced_moments old + 1
sync_syncs {old} {new} (NoStep same) = let syncs : synced_moments new ≡ synced_moments old = ap synced_moments same in omega (arith, syncs)
sync_syncs {old} {new} (OneStep more step) =
    let here : is_synced new.now.unsynced ≡ 1 = ap is_synced step.unsynced in
    let before : synced_states new.past ≡ synced_moments old = ap synced_states more in
    omega (arith, here, before)

-- and one that failed while a range was unsynced has changed nothing
pub failed_sync : {range : ℕ × ℕ} {ranges : List (ℕ × ℕ)} {old new : History} → IsAtMostOneStep IsSync old new → new.now.unsynced ≡ range ∷ ranges → new ≡ old
failed_sync (NoStep same) still = same
failed_sync (OneStep more step) still = let both = sym step.unsynced ∙ still in absurd cc

-- So a sync of what was written is one call more, whether it fails or not, and a sync.
pub last_sync : {A E : Type 0} (result : Result A E) (before after : ℕ) {range : ℕ × ℕ} {ranges : List (ℕ × ℕ)} {old new : History} → IsAtMostOneStep IsSync old new
    → old.now.unsynced ≡ range ∷ ranges → OnErr result (new.now.unsynced ≡ old.now.unsynced) → OnOk result ((after ≡ before) × (before < most_faults))
    → OnErr result (after ≡ min (before + 1) most_faults)
    → (length new.past + after ≤ length old.past + before + 1) × (synced_moments new + after ≤ synced_moments old + before + 1)
last_sync (Ok done) before after time written still good failed = (omega (arith, one_more time, good.0), omega (arith, sync_syncs time, good.0))
last_sync (Err fault) before after {old = old} {new = new} time written still good failed =
    let same = failed_sync time (still ∙ written) in
    let past : length new.past ≡ length old.past = ap (λ (h : History). length h.past) same in
    let syncs : synced_moments new ≡ synced_moments old = ap synced_moments same in
    (omega (arith, past, failed), omega (arith, syncs, failed))
