use Rattle.delta.specs.Cursor.{operation_of_part, operations_left}
use Rattle.xform.proofs.Steps.{step-second}
use Rattle.xform.proofs.stepping.pass_second.Goals as goal

pub returns : goal.returns
returns c = record {
  step =
      rw (c.in_ok-copy.ensures.same, c.new.ensures)
      (step-second (operation_of_part c.args.two) (operations_left c.args.first) c.args.rest.now c.args.priority c.requires.first c.requires.turn);
}
