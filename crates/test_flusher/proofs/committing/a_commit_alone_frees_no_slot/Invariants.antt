use Rattle.recovery.specs.Open.{state_of}
use Rattle.test_flusher.proofs.committing.a_commit_alone_frees_no_slot.Given as goal

abbrev pub ghosts-three_batches-L-Life : goal.ghosts-three_batches-L-Life
ghosts-three_batches-L-Life g a = record { book = a.opened; start = state_of a.store }

abbrev pub ghosts-three_batches-L-Ledger : goal.ghosts-three_batches-L-Ledger
ghosts-three_batches-L-Ledger g a = record { name = a.blank.name; parts = a.blank.parts }
