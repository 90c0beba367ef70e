use Rattle.recovery.specs.Open.{state_of}
use Rattle.test_flusher.proofs.upkeep.turns_alone_put_no_milestone.Given as goal

abbrev pub ghosts-alone-L-Life : goal.ghosts-alone-L-Life
ghosts-alone-L-Life g a = record { book = a.opened; start = state_of a.store }

abbrev pub ghosts-alone-L-Ledger : goal.ghosts-alone-L-Ledger
ghosts-alone-L-Ledger g a = record { name = a.blank.name; parts = a.blank.parts }
