use Rattle.recovery.specs.Open.{state_of}
use Rattle.test_view.proofs.threads.a_reader_goes_on_beside_the_publisher.Given as goal

abbrev pub ghosts-beside-L-Life : goal.ghosts-beside-L-Life
ghosts-beside-L-Life g a = record { book = a.opened; start = state_of a.store }

abbrev pub ghosts-beside-L-Ledger : goal.ghosts-beside-L-Ledger
ghosts-beside-L-Ledger g a = record { name = a.blank.name; parts = a.blank.parts }
