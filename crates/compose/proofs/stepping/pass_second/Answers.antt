use Rattle.std.proofs.Common.{List, [], inr, ◌∷◌, ◌++◌, sym, subst}
use Rattle.delta.specs.Operation.{Operation}
use Rattle.delta.specs.Cursor.{operation_of_part, operations_left}
use Rattle.compose.specs.steps.Stepping.{IsShortStep}
use Rattle.compose.proofs.Progress.{second_made, second_shorter}
use Rattle.compose.proofs.stepping.pass_second.Goals as goal

pub returns : goal.returns
returns c = record {
  step =
      let op : Operation = operation_of_part c.args.op in
      let next : Operation = operation_of_part c.args.next in
      subst (λ (l : List Operation). IsShortStep (op ∷ c.args.tail.now) (next ∷ c.args.rest.now) (c.in_ok-to_op.field-0 ∷ []) l (operations_left c.new.result)) (sym c.before-2.ensures)
      (record {
        step = λ more. second_made (op ∷ (c.args.tail.now ++ more)) next c.in_ok-to_op.field-0 c.args.rest.now (operations_left c.new.result) c.in_ok-to_op.ensures.same c.new.ensures (inr c.requires.inserts);
        shorter = second_shorter (op ∷ c.args.tail.now) next c.in_ok-to_op.field-0 c.args.rest.now (operations_left c.new.result) c.in_ok-to_op.ensures.same c.new.ensures c.requires.first c.requires.second c.requires.inserts;
      });
}
