use Rattle.recovery.specs.Open.{state_of}
use Rattle.test_hub.proofs.threads.one_submits_while_the_other_writes.Given as goal

abbrev pub ghosts-both-L-Life : goal.ghosts-both-L-Life
ghosts-both-L-Life g a = record { book = a.opened; start = state_of a.store }

abbrev pub ghosts-both-L-Ledger : goal.ghosts-both-L-Ledger
ghosts-both-L-Ledger g a = record { name = a.blank.name; parts = a.blank.parts }
