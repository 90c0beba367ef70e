use Rattle.recovery.specs.Open.{state_of}
use Rattle.server_threads.proofs.connections.serve_on.Given as goal

-- the run is named by its ledger of seats, its log, and the state that its store was opened with
abbrev pub ghosts-serve_run-L-Ledger : goal.ghosts-serve_run-L-Ledger
ghosts-serve_run-L-Ledger g a = record { name = a.named.blank.name; parts = a.named.blank.parts }

abbrev pub ghosts-serve_run-L-Life : goal.ghosts-serve_run-L-Life
ghosts-serve_run-L-Life g a = record { book = a.named.opened; start = state_of a.store }
