use Rattle.delta.proofs.Joins.{front-nil, front-front, joined-front, joined-run, joined-End}
use Rattle.delta.proofs.LeftOver.{run-parts}
use Rattle.delta.proofs.Effects.{apply-front, changed-empty}
use Rattle.delta.proofs.laws.gap_forms.Goals as goal

pub returns-clause-front_of_nothing : goal.returns-clause-front_of_nothing
returns-clause-front_of_nothing c = front-nil

pub returns-clause-front_twice : goal.returns-clause-front_twice
returns-clause-front_twice c = front-front

pub returns-clause-run_in_parts : goal.returns-clause-run_in_parts
returns-clause-run_in_parts c = run-parts

pub returns-clause-joined_to_front : goal.returns-clause-joined_to_front
returns-clause-joined_to_front c = joined-front

pub returns-clause-joined_to_run : goal.returns-clause-joined_to_run
returns-clause-joined_to_run c = joined-run

pub returns-clause-joined_to_nothing : goal.returns-clause-joined_to_nothing
returns-clause-joined_to_nothing c = joined-End

pub returns-clause-effect_of_front : goal.returns-clause-effect_of_front
returns-clause-effect_of_front c = apply-front

pub returns-clause-changed_by_nothing : goal.returns-clause-changed_by_nothing
returns-clause-changed_by_nothing c = changed-empty
