use Rattle.std.proofs.Common.{◌≡◌, ◌∙◌, min, ap₂}
use Rattle.delta.specs.Operation.{op_len}
use Rattle.delta.specs.Cursor.{operation_of_part}
use Rattle.xform.proofs.Steps.{step-both}
use Rattle.xform.proofs.stepping.pass_both.Goals as goal

pub returns : goal.returns
returns c = record {
  step =
      let least : c.min-len.result ≡ min (op_len (operation_of_part c.args.one)) (op_len (operation_of_part c.args.two)) = c.min-len.ensures ∙ ap₂ min c.len16.ensures c.len16-2.ensures in
      rw (c.in_ok-made.ensures.made, c.past.ensures, c.past-2.ensures)
      (step-both (operation_of_part c.args.one) (operation_of_part c.args.two) c.requires.first c.requires.second c.min-len.result least c.args.others.now c.args.rest.now c.args.priority);
}
