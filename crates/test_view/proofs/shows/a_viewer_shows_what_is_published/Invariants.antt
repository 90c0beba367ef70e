use Rattle.recovery.specs.Open.{state_of}
use Rattle.test_view.proofs.shows.a_viewer_shows_what_is_published.Given as goal

abbrev pub ghosts-two_batches-L-Life : goal.ghosts-two_batches-L-Life
ghosts-two_batches-L-Life g a = record { book = a.opened; start = state_of a.store }

abbrev pub ghosts-two_batches-L-Ledger : goal.ghosts-two_batches-L-Ledger
ghosts-two_batches-L-Ledger g a = record { name = a.blank.name; parts = a.blank.parts }
