use Rattle.recovery.specs.Open.{state_of}
use Rattle.test_flusher.proofs.shows.what_is_committed_is_shown_once_it_is_published.Given as goal

abbrev pub ghosts-two_batches-L-Life : goal.ghosts-two_batches-L-Life
ghosts-two_batches-L-Life a b = record { book = b.opened; start = state_of b.store }

abbrev pub ghosts-two_batches-L-Ledger : goal.ghosts-two_batches-L-Ledger
ghosts-two_batches-L-Ledger a b = record { name = b.blank.name; parts = b.blank.parts }
