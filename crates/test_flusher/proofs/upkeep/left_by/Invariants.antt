use Rattle.recovery.specs.Open.{state_of}
use Rattle.test_flusher.proofs.upkeep.left_by.Given as goal

abbrev pub ghosts-turned-L-Life : goal.ghosts-turned-L-Life
ghosts-turned-L-Life g a = record { book = a.opened; start = state_of a.store }

abbrev pub ghosts-turned-L-Ledger : goal.ghosts-turned-L-Ledger
ghosts-turned-L-Ledger g a = record { name = a.blank.name; parts = a.blank.parts }
