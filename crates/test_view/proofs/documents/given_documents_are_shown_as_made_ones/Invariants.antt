use Rattle.recovery.specs.Open.{state_of}
use Rattle.test_view.proofs.documents.given_documents_are_shown_as_made_ones.Given as goal

abbrev pub ghosts-two_of_two-L-Life : goal.ghosts-two_of_two-L-Life
ghosts-two_of_two-L-Life g a = record { book = a.opened; start = state_of a.store }

abbrev pub ghosts-two_of_two-L-Ledger : goal.ghosts-two_of_two-L-Ledger
ghosts-two_of_two-L-Ledger g a = record { name = a.blank.name; parts = a.blank.parts }
