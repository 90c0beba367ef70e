use Rattle.recovery.specs.Open.{state_of}
use Rattle.test_flusher.proofs.composing.a_document_that_was_opened_gets_a_milestone.Given as goal

abbrev pub ghosts-composed_beside-L-Life : goal.ghosts-composed_beside-L-Life
ghosts-composed_beside-L-Life g a = record { book = a.opened; start = state_of a.store }

abbrev pub ghosts-composed_beside-L-Ledger : goal.ghosts-composed_beside-L-Ledger
ghosts-composed_beside-L-Ledger g a = record { name = a.blank.name; parts = a.blank.parts }
