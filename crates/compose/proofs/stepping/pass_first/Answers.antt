use Rattle.delta.specs.Cursor.{operations_left, operation_of_part}
use Rattle.compose.proofs.Progress.{first_made, first_shorter}
use Rattle.compose.proofs.stepping.pass_first.Goals as goal

pub returns : goal.returns
returns c = record {
  step = record {
    step = first_made (operation_of_part c.args.op) c.in_ok-to_op.field-0 c.args.tail.now (operations_left c.args.second) (operations_left c.new.result) c.in_ok-to_op.ensures.same c.new.ensures c.requires.alone;
    shorter = first_shorter (operation_of_part c.args.op) c.in_ok-to_op.field-0 c.args.tail.now (operations_left c.args.second) (operations_left c.new.result) c.in_ok-to_op.ensures.same c.new.ensures c.requires.first c.requires.second c.requires.alone;
  };
}
