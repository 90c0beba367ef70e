use Rattle.std.proofs.Common.{◌≡◌, ◌≤◌, ◌+◌, ◌-◌, ◌*◌, ℕ, length, take, get_or}
use Rattle.std.specs.Prelude.{Ok}
use Rattle.recovery.specs.Faults.{FailsAtFaults}
use Rattle.recovery.specs.Found.{FoundAs}
use Rattle.recovery.specs.Goes.{Goes}
use Rattle.recovery.specs.Jobs.{jobs_for}
use Rattle.recovery.specs.Open.{IsOpen, device_of, kept_jobs, state_of}
use Rattle.recovery.specs.steps.Freeing.{KeepsSegments, ChangesCells, AreCoveredTo, AreFull, SyncsBy, count_marked}
use Rattle.recovery.proofs.store.Store.cover_documents.Given as goal

abbrev pub invariant-loop-from : goal.invariant-loop-from
invariant-loop-from g l = record {
  within : l.from ≤ length l.marked;
  faults : FailsAtFaults {A = Unit {0}} (Ok tt) l.fn.self l.self;
  keeps : KeepsSegments l.fn.self l.self;
  outside : ChangesCells l.fn.self l.self;
  goes : Goes (λ content. FoundAs content (state_of l.fn.self)) l.fn.self l.self;
  covered : (is_open : IsOpen l.fn.self) → AreCoveredTo l.from (λ n. get_or l.marked n 0) l.fn.self is_open l.self;
  calls : length (g.D.Disk.past (device_of l.self)) ≤ length (g.D.Disk.past (device_of l.fn.self)) + 12 * count_marked (take l.from l.marked);
  syncs : (groups : ℕ) × AreFull l.marked (state_of l.fn.self) l.from groups × SyncsBy groups l.fn.self l.self;
  jobs : (document : ℕ) → get_or l.marked document 0 ≡ 0 → jobs_for document (kept_jobs l.self) ≡ jobs_for document (kept_jobs l.fn.self);
  few_jobs : length (kept_jobs l.self) ≤ length (kept_jobs l.fn.self);
}

abbrev pub decreases-loop-from : goal.decreases-loop-from
decreases-loop-from g l = length l.marked - l.from
