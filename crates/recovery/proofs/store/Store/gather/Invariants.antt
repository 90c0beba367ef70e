use Rattle.std.proofs.Common.{◌≡◌, ◌≤◌, ◌<◌}
use Rattle.recovery.specs.Freed.{most_bytes}
use Rattle.recovery.specs.steps.Freeing.{bytes_of, IsGathered}
use Rattle.recovery.proofs.store.Store.gather.Given as goal

abbrev pub invariant-loop-document : goal.invariant-loop-document
invariant-loop-document g l = record {
  behind : l.from ≤ l.document;
  bytes : l.bytes ≡ bytes_of l.members.items;
  few : l.bytes < most_bytes;
  gathered : IsGathered l.marked l.from l.document l.members.items l.self;
}
