use Rattle.recovery.specs.Open.{state_of}
use Rattle.test_flusher.proofs.rows.stops.Given as goal

abbrev pub ghosts-driven-L-Life : goal.ghosts-driven-L-Life
ghosts-driven-L-Life g a = record { book = a.opened; start = state_of a.store }

abbrev pub ghosts-driven-L-Ledger : goal.ghosts-driven-L-Ledger
ghosts-driven-L-Ledger g a = record { name = a.blank.name; parts = a.blank.parts }
