use Rattle.recovery.specs.Open.{state_of}
use Rattle.test_flusher.proofs.composing.fills.Given as goal

abbrev pub ghosts-retired_before-L-Life : goal.ghosts-retired_before-L-Life
ghosts-retired_before-L-Life g a = record { book = a.opened; start = state_of a.store }

abbrev pub ghosts-retired_before-L-Ledger : goal.ghosts-retired_before-L-Ledger
ghosts-retired_before-L-Ledger g a = record { name = a.blank.name; parts = a.blank.parts }
