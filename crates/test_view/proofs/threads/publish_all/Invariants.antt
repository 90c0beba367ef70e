use Rattle.std.proofs.Common.{◌≡◌, []}
use Rattle.revision.specs.State.{fold}
use Rattle.recovery.specs.Found.{commands_of}
use Rattle.test_view.proofs.threads.publish_all.Given as goal

abbrev pub invariant-loop-number : goal.invariant-loop-number
invariant-loop-number g l = record {
  none : l.publisher.unpublished ≡ [];
  kept : l.writing ≡ fold g.L.Life.start (commands_of l.publisher.told);
}
