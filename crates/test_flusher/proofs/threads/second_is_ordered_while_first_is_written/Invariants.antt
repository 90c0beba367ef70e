use Rattle.recovery.specs.Open.{state_of}
use Rattle.test_flusher.proofs.threads.second_is_ordered_while_first_is_written.Given as goal

abbrev pub ghosts-beside-L-Life : goal.ghosts-beside-L-Life
ghosts-beside-L-Life a b = record { book = b.opened; start = state_of b.store }

abbrev pub ghosts-beside-L-Ledger : goal.ghosts-beside-L-Ledger
ghosts-beside-L-Ledger a b = record { name = b.blank.name; parts = b.blank.parts }
