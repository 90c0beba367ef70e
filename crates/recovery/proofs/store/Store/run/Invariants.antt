use Rattle.std.proofs.Common.{◌≡◌, ◌≤◌, ◌↔◌, ◌+◌, ◌*◌, ℕ, true, false, length, take, drop}
use Rattle.disk.specs.Crash.{LeavesOnly}
use Rattle.recovery.specs.Open.{IsOpen, IsUnchanged, device_of, state_of, has_failed, kept_jobs}
use Rattle.recovery.specs.Begun.{jobs_after}
use Rattle.recovery.specs.Run.{AreTaken, IsAfterSome, IsKeptFrom, state_after}
use Rattle.recovery.proofs.store.Store.run.Given as goal

abbrev pub invariant-loop-at : goal.invariant-loop-at
invariant-loop-at g l = record {
  rest : state_after (state_of l.self) (drop l.at l.steps) ≡ state_after (state_of l.fn.self) l.steps;
  limits : (state_of l.self).limits ≡ (state_of l.fn.self).limits;
  so_far : state_of l.self ≡ state_after (state_of l.fn.self) (take l.at l.steps);
  unfailed : has_failed l.fn.self ≡ false → has_failed l.self ≡ false;
  faults : g.D.Disk.faults (device_of l.self) ≡ g.D.Disk.faults (device_of l.fn.self);
  honest : g.D.Disk.honest (device_of l.self) ↔ g.D.Disk.honest (device_of l.fn.self);
  taken : AreTaken (take l.at l.steps) l.fn.self l.self;
  jobs : kept_jobs l.self ≡ jobs_after (take l.at l.steps) (kept_jobs l.fn.self);
  calls : length (g.D.Disk.past (device_of l.self)) ≤ length (g.D.Disk.past (device_of l.fn.self)) + 8 * l.at;
  is_open : IsOpen l.fn.self → IsOpen l.self;
  failed_before : has_failed l.fn.self ≡ true → (l.at ≡ 0) × IsUnchanged l.fn.self l.self;
  moments : has_failed l.fn.self ≡ false → IsOpen l.fn.self → LeavesOnly g.D.Disk (IsAfterSome 0 (state_of l.fn.self) l.steps) (device_of l.fn.self) (device_of l.self);
  since : has_failed l.fn.self ≡ false → IsOpen l.fn.self → (count : ℕ) → count ≤ l.at → IsKeptFrom count l.steps l.fn.self l.self;
}
