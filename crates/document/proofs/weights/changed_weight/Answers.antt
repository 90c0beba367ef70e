use Rattle.std.proofs.Common.{arith}
use Rattle.document.proofs.Changing.{weight_of_changed}
use Rattle.document.proofs.weights.changed_weight.Goals as goal

pub returns : goal.returns
returns c =
    omega (arith, weight_of_changed c.args.attrs.now c.args.change.now, c.saturating_add.ensures, c.entries_kept_weight.ensures, c.entries_set_weight.ensures)
