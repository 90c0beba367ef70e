use Rattle.std.proofs.Common.{sym, ap, ◌∙◌}
use Rattle.delta.specs.Kind.{operation_of_kind}
use Rattle.delta.proofs.op.Op.lengthen.Goals as goal

pub returns-in-Retain : goal.returns-in-Retain
returns-in-Retain c = record {
  change = c.in-Retain.field-0;
  was = sym c.self.view_is ∙ ap (operation_of_kind c.self.inside.len) c.in-Retain.is;
  is = ap (operation_of_kind c.args.len) c.in-Retain.is;
}
