use Rattle.std.proofs.Common.{List, ◌∷◌, ap, subst}
use Rattle.std.specs.Prelude.{Err}
use Rattle.std.specs.Option.{option_to_list}
use Rattle.std.proofs.lemmas.Result.{err_from_is_err_and}
use Rattle.delta.specs.Operation.{Operation}
use Rattle.delta.specs.Normal.{NoneIsEmpty}
use Rattle.delta.specs.Cursor.{operation_of_part, operations_left}
use Rattle.compose.specs.steps.PartlyComposed.{ComposesFurther, IsRefusedPartway}
use Rattle.compose.proofs.LaidOver.{IsLaid, laid-step, refused-cut, refused-step}
use Rattle.compose.proofs.Outcomes.{handed_on}
use Rattle.compose.proofs.laying.lay.Goals as goal

pub next_step-requires-clause-first : goal.next_step-requires-clause-first
next_step-requires-clause-first c = subst NoneIsEmpty c.in-Some.ensures c.loop-op.invariant.first_some

pub returns-in_err-step-clause-refused : goal.returns-in_err-step-clause-refused
returns-in_err-step-clause-refused c =
    let p = err_from_is_err_and c.from_residual.result c.from_residual.ensures.1 in
    let so = subst (λ (l : List Operation). IsLaid c.args.out.now (operations_left c.args.first) (operations_left c.args.second) c.loop-op.out l (operations_left c.loop-op.second)) c.in-Some.ensures c.loop-op.invariant in
    handed_on (IsRefusedPartway c.args.out.now (operations_left c.args.first) (operations_left c.args.second)) c.from_residual.result p.0 c.in_err-step.field-0.0 p.1 p.2
    (refused-cut c.args.out.now c.loop-op.out (operations_left c.args.first) (operations_left c.args.second) (operation_of_part c.in-Some.op ∷ c.in-Some.tail.now) (operations_left c.loop-op.second) c.in_err-step.field-0.0
    so.on (λ cut. c.in_err-step.ensures.cut (ap Err cut)) c.in_err-step.ensures.only)

pub returns-in_err-add-clause-refused : goal.returns-in_err-add-clause-refused
returns-in_err-add-clause-refused c =
    let p = err_from_is_err_and c.from_residual-in_err-add.result c.from_residual-in_err-add.ensures.1 in
    let so = subst (λ (l : List Operation). IsLaid c.args.out.now (operations_left c.args.first) (operations_left c.args.second) c.loop-op.out l (operations_left c.loop-op.second)) c.in-Some.ensures c.loop-op.invariant in
    handed_on (IsRefusedPartway c.args.out.now (operations_left c.args.first) (operations_left c.args.second)) c.from_residual-in_err-add.result p.0 c.in_err-add.field-0.0 p.1 p.2
    (refused-step c.args.out.now c.loop-op.out (operations_left c.args.first) (operations_left c.args.second) (option_to_list c.in_ok-step.step.made) (operation_of_part c.in-Some.op ∷ c.in-Some.tail.now) (operations_left c.loop-op.second) (operations_left c.in_ok-step.step.first) (operations_left c.in_ok-step.step.second) c.in_err-add.field-0.0
    so.on c.in_ok-step.ensures.step (λ bad. c.in_err-add.ensures.bad (ap Err bad)) c.in_err-add.ensures.only)

pub loop-op-preserved : goal.loop-op-preserved
loop-op-preserved c =
    let so = subst (λ (l : List Operation). IsLaid c.args.out.now (operations_left c.args.first) (operations_left c.args.second) c.loop-op.out l (operations_left c.loop-op.second)) c.in-Some.ensures c.loop-op.invariant in
    laid-step c.args.out.now c.loop-op.out c.add.new.out (operations_left c.args.first) (operations_left c.args.second) (option_to_list c.in_ok-step.step.made) (operation_of_part c.in-Some.op ∷ c.in-Some.tail.now) (operations_left c.loop-op.second) (operations_left c.in_ok-step.step.first) (operations_left c.in_ok-step.step.second)
    so c.in_ok-step.ensures.step c.in_ok-add.ensures.added

pub returns-clause-on : goal.returns-clause-on
returns-clause-on c =
    subst (λ (l : List Operation). ComposesFurther c.args.out.now (operations_left c.args.first) (operations_left c.args.second) c.loop-op.out l (operations_left c.loop-op.second)) c.in_default.ensures c.loop-op.invariant.on
