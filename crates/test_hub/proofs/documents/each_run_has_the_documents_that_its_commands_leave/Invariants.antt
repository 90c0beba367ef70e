use Rattle.recovery.specs.Open.{state_of}
use Rattle.test_hub.proofs.documents.each_run_has_the_documents_that_its_commands_leave.Given as goal

abbrev pub ghosts-handed_out-L-Life : goal.ghosts-handed_out-L-Life
ghosts-handed_out-L-Life g a = record { book = a.opened; start = state_of a.store }

abbrev pub ghosts-handed_out-L-Ledger : goal.ghosts-handed_out-L-Ledger
ghosts-handed_out-L-Ledger g a = record { name = a.blank.name; parts = a.blank.parts }
