use Rattle.std.proofs.Common.{◌-◌, ◌^◌, ◌∙◌}
use Rattle.document.proofs.Weighing.{weight_of_run}
use Rattle.document.proofs.run.Run.weight.Goals as goal

pub returns : goal.returns
returns c =
    c.saturating_mul.ensures
    ∙ weight_of_run c.self.inside.content c.self.inside.attrs c.args.self.now c.self.inside.units c.attributes_weight.result c.weight.result c.saturating_add-each.result (2 ^ 64 - 1)
    c.self.view_is c.self.invariant c.weight.ensures.weight c.attributes_weight.ensures c.saturating_add-each.ensures
