use Rattle.delta.proofs.Joins.{units_below-front, units_below-run}
use Rattle.delta.proofs.Lengths.{units_below-settled, units_made-counted, units_made-settled, base_of-append, out_of-append, base_of-spelled, out_of-spelled}
use Rattle.delta.proofs.laws.lengths.Goals as goal

pub returns-clause-units_of_front : goal.returns-clause-units_of_front
returns-clause-units_of_front c = units_below-front

pub returns-clause-units_of_run : goal.returns-clause-units_of_run
returns-clause-units_of_run c = units_below-run

pub returns-clause-units_of_settled : goal.returns-clause-units_of_settled
returns-clause-units_of_settled c = units_below-settled

pub returns-clause-made_by_counted : goal.returns-clause-made_by_counted
returns-clause-made_by_counted c = units_made-counted

pub returns-clause-made_by_settled : goal.returns-clause-made_by_settled
returns-clause-made_by_settled c = units_made-settled

pub returns-clause-base_of_append : goal.returns-clause-base_of_append
returns-clause-base_of_append c = base_of-append

pub returns-clause-out_of_append : goal.returns-clause-out_of_append
returns-clause-out_of_append c = out_of-append

pub returns-clause-base_of_spelled : goal.returns-clause-base_of_spelled
returns-clause-base_of_spelled c = base_of-spelled

pub returns-clause-out_of_spelled : goal.returns-clause-out_of_spelled
returns-clause-out_of_spelled c = out_of-spelled
