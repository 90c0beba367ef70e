use Rattle.std.proofs.Common.{ap, sym, ◌∙◌}
use Rattle.delta.specs.Kind.{operation_of}
use Rattle.document.proofs.Measured.{made_by_retain, made_by_delete}
use Rattle.document.proofs.weights.made_weight.Goals as goal

pub returns-in-Retain : goal.returns-in-Retain
returns-in-Retain c = made_by_retain _ _ _ _ _ _ (ap operation_of (sym c.in-Retain.is) ∙ c.get.ensures) c.kept_units_weight.ensures

pub returns-in-Ok : goal.returns-in-Ok
returns-in-Ok c = made_by_delete _ _ _ _ (ap operation_of (sym c.in-Delete.is) ∙ c.get.ensures) c.in-Ok.ensures.passed
