use Rattle.std.proofs.Common.{◌≡◌, ◌≤◌, ◌<◌, length, take}
use Rattle.recovery.specs.Freed.{most_bytes}
use Rattle.recovery.specs.steps.Freeing.{bytes_of, AreBounded}
use Rattle.recovery.specs.steps.Group.{AreKept}
use Rattle.recovery.proofs.store.Store.spell_kept.Given as goal

abbrev pub invariant-loop-place : goal.invariant-loop-place
invariant-loop-place g l = record {
  kept : AreKept (take l.place l.composed) l.members.items l.self;
  none : l.place ≡ 0 → l.bytes ≡ 0;
  few : length l.members.items ≤ l.place;
  bytes : l.bytes < most_bytes → l.bytes ≡ bytes_of l.members.items;
  bounded : AreBounded l.members.items;
}
