use Rattle.lives.proofs.Scheduling.{run_is_schedule, first_is_schedule}
use Rattle.lives.proofs.laws.run_is_a_schedule.Goals as goal

pub returns-clause-goes_on : goal.returns-clause-goes_on
returns-clause-goes_on g c = run_is_schedule _ _ _

pub returns-clause-first : goal.returns-clause-first
returns-clause-first g c = first_is_schedule _ _ _
