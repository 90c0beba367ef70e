use Rattle.std.proofs.Common.{ap, arith}
use Rattle.std.proofs.lemmas.List.{drop_all}
use Rattle.revision.specs.Sources.{total_of}
use Rattle.revision.specs.State.{window_weight}
use Rattle.inspection.proofs.weighing.weight_of_all.Goals as goal

pub returns : goal.returns
returns c =
    let none = ap (total_of (window_weight c.args.limits)) (drop_all c.loop-window.window-index c.args.entries.now c.loop-window-test.false) in
    omega (arith, none, c.loop-window.invariant.range, c.loop-window.invariant.all)
