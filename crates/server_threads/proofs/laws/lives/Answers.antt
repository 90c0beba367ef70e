use Rattle.server_threads.proofs.AllLives.{lives_kept, all_lives, asked_again, crash_leaves, copy_leaves, opens_again}
use Rattle.server_threads.proofs.laws.lives.Goals as goal

pub returns-clause-opened : goal.returns-clause-opened
returns-clause-opened g c = lives_kept _ _

pub returns-clause-all : goal.returns-clause-all
returns-clause-all g c = all_lives _ _

pub returns-clause-again : goal.returns-clause-again
returns-clause-again g c = asked_again _ _

pub returns-clause-crash : goal.returns-clause-crash
returns-clause-crash g c = crash_leaves _ _

pub returns-clause-copy : goal.returns-clause-copy
returns-clause-copy g c = copy_leaves _ _

pub returns-clause-opens : goal.returns-clause-opens
returns-clause-opens g c = opens_again _ _
