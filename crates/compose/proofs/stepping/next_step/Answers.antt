use Rattle.std.proofs.Common.{List, ◌∷◌, sym, subst}
use Rattle.std.specs.Prelude.{IfOk}
use Rattle.delta.specs.Operation.{Operation}
use Rattle.delta.specs.Cursor.{operation_of_part}
use Rattle.delta.specs.Normal.{IsNormal}
use Rattle.compose.specs.steps.Stepping.{IsStepOf, CutsBefore}
use Rattle.compose.proofs.stepping.next_step.Goals as goal

pub pass_second-requires-clause-second : goal.pass_second-requires-clause-second
pass_second-requires-clause-second c = subst IsNormal c.in-Some.ensures c.requires.second

pub meet-requires-clause-second : goal.meet-requires-clause-second
meet-requires-clause-second c = subst IsNormal c.in-Some.ensures c.requires.second

pub returns-else-is_insert-clause-step : goal.returns-else-is_insert-clause-step
returns-else-is_insert-clause-step c =
    subst (λ (l : List Operation). IfOk c.meet.result (IsStepOf (operation_of_part c.args.op ∷ c.args.tail.now) l)) (sym c.in-Some.ensures) c.meet.ensures.step

pub returns-else-is_insert-clause-cut : goal.returns-else-is_insert-clause-cut
returns-else-is_insert-clause-cut c =
    λ e. subst (λ (l : List Operation). CutsBefore (operation_of_part c.args.op ∷ c.args.tail.now) l) (sym c.in-Some.ensures) (c.meet.ensures.cut e)
