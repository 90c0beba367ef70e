use Rattle.std.proofs.Common.{ap, sym, ◌∙◌}
use Rattle.delta.specs.Kind.{operation_of}
use Rattle.delta.specs.Cursor.{operation_of_part}
use Rattle.compose.proofs.Meetings.{in_turn-plain}
use Rattle.compose.proofs.laying.changed.Goals as goal

pub returns-then-is_empty : goal.returns-then-is_empty
returns-then-is_empty c = record {
  made =
      in_turn-plain c.args.op (operation_of_part c.args.next) c.in-Retain.field-0 c.in-Retain.change.now (sym c.get.ensures ∙ ap operation_of c.in-Retain.is) (c.is_empty.ensures.0 c.if-is_empty.true);
}
