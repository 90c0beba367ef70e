use Rattle.std.proofs.Common.{◌≡◌, true, List, [], ◌∷◌, ap, refl, subst}
use Rattle.std.specs.Prelude.{Err}
use Rattle.std.proofs.lemmas.Result.{err_from_is_err_and}
use Rattle.delta.specs.Operation.{Operation, is_insert}
use Rattle.delta.specs.Cursor.{operation_of_part, operations_left}
use Rattle.compose.specs.steps.PartlyComposed.{IsRefusedPartway}
use Rattle.compose.proofs.LaidOver.{IsPassed, passed-step, insert-step, refused-step}
use Rattle.compose.proofs.Outcomes.{handed_on}
use Rattle.compose.proofs.laying.pass_inserts.Goals as goal

pub returns-in_err-add-clause-refused : goal.returns-in_err-add-clause-refused
returns-in_err-add-clause-refused c =
    let is = c.is_insert.ensures in
    let inserts : is_insert (operation_of_part c.in-Some.op) ≡ true = let isnt = c.if-not-is_insert.false in cc in
    let p = err_from_is_err_and c.from_residual-in_err-add.result c.from_residual-in_err-add.ensures.1 in
    let so = subst (λ (l : List Operation). IsPassed c.args.out.now (operations_left c.args.second) c.loop-op.out l) c.in-Some.ensures c.loop-op.invariant in
    handed_on (IsRefusedPartway c.args.out.now [] (operations_left c.args.second)) c.from_residual-in_err-add.result p.0 c.in_err-add.field-0.0 p.1 p.2
    (refused-step c.args.out.now c.loop-op.out [] (operations_left c.args.second) (c.in_ok-to_op.field-0 ∷ []) [] (operation_of_part c.in-Some.op ∷ c.in-Some.rest.now) [] c.in-Some.rest.now c.in_err-add.field-0.0
    so.on (insert-step (operation_of_part c.in-Some.op) c.in_ok-to_op.field-0 c.in-Some.rest.now c.in-Some.rest.now inserts so.normal c.in_ok-to_op.ensures.same refl)
    (λ bad. c.in_err-add.ensures.bad (ap Err bad)) c.in_err-add.ensures.only)

pub loop-op-preserved : goal.loop-op-preserved
loop-op-preserved c =
    let is = c.is_insert.ensures in
    let inserts : is_insert (operation_of_part c.in-Some.op) ≡ true = let isnt = c.if-not-is_insert.false in cc in
    let so = subst (λ (l : List Operation). IsPassed c.args.out.now (operations_left c.args.second) c.loop-op.out l) c.in-Some.ensures c.loop-op.invariant in
    passed-step c.args.out.now c.loop-op.out c.add.new.out (operations_left c.args.second) (operation_of_part c.in-Some.op) c.in_ok-to_op.field-0 c.in-Some.rest.now (operations_left c.new-second.result)
    so inserts c.in_ok-to_op.ensures.same c.new-second.ensures c.in_ok-add.ensures.added
