use Rattle.std.proofs.Common.{List, ap, subst}
use Rattle.std.specs.Prelude.{Err}
use Rattle.std.proofs.lemmas.Result.{err_from_is_err_and}
use Rattle.delta.specs.Operation.{Operation}
use Rattle.delta.specs.Cursor.{operation_of_part, operations_left}
use Rattle.compose.proofs.LaidOver.{Appends, appended-step, appended-refused, refused-outcome, outcome}
use Rattle.compose.proofs.laying.end.Goals as goal

pub loop-op-preserved : goal.loop-op-preserved
loop-op-preserved c =
    let so = subst (λ (l : List Operation). Appends c.args.out (operations_left c.args.rest) c.loop-op.out l) c.in-Some.ensures c.loop-op.invariant in
    appended-step c.args.out c.loop-op.out c.add.new.out (operations_left c.args.rest) (operation_of_part c.in-Some.op) c.in_ok-to_op.field-0 c.in-Some.behind.now (operations_left c.new-rest.result)
    so c.in_ok-to_op.ensures.same c.new-rest.ensures c.in_ok-add.ensures.added

pub returns-in_err-add : goal.returns-in_err-add
returns-in_err-add c =
    let so = subst (λ (l : List Operation). Appends c.args.out (operations_left c.args.rest) c.loop-op.out l) c.in-Some.ensures c.loop-op.invariant in
    let p = err_from_is_err_and c.from_residual-in_err-add.result c.from_residual-in_err-add.ensures.1 in
    refused-outcome c.from_residual-in_err-add.result p.0 c.in_err-add.field-0.0 c.args.out (operations_left c.args.rest) p.1 p.2
    (appended-refused c.args.out c.loop-op.out (operations_left c.args.rest) (operation_of_part c.in-Some.op) c.in_ok-to_op.field-0 c.in-Some.behind.now c.in_err-add.field-0.0
    so c.in_ok-to_op.ensures.same (λ bad. c.in_err-add.ensures.bad (ap Err bad)) c.in_err-add.ensures.only)

pub returns : goal.returns
returns c =
    let so = subst (λ (l : List Operation). Appends c.args.out (operations_left c.args.rest) c.loop-op.out l) c.in_default.ensures c.loop-op.invariant in
    outcome c.finish-delta.result c.args.out c.loop-op.out (operations_left c.args.rest) so c.finish-delta.ensures c.facts.ensures.bounded
