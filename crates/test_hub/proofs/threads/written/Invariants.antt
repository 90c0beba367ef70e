use Rattle.std.proofs.Common.{◌≡◌, length}
use Rattle.recovery.specs.Found.{commands_of}
use Rattle.test_hub.proofs.threads.written.Given as goal

abbrev pub invariant-loop : goal.invariant-loop
invariant-loop g l = record {
  taken : l.writer.taken ≡ length (commands_of l.publishing);
  settled : l.writer.settled ≡ length (commands_of l.publishing);
}
