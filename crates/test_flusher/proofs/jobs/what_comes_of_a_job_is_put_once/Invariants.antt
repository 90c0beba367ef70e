use Rattle.recovery.specs.Open.{state_of}
use Rattle.test_flusher.proofs.jobs.what_comes_of_a_job_is_put_once.Given as goal

abbrev pub ghosts-put_after_the_create-L-Life : goal.ghosts-put_after_the_create-L-Life
ghosts-put_after_the_create-L-Life a b = record { book = b.opened; start = state_of b.store }

abbrev pub ghosts-put_after_the_create-L-Ledger : goal.ghosts-put_after_the_create-L-Ledger
ghosts-put_after_the_create-L-Ledger a b = record { name = b.blank.name; parts = b.blank.parts }
