use Rattle.std.proofs.Common.{arith, ap}
use Rattle.std.proofs.lemmas.List.{take_all}
use Rattle.document.specs.Runs.{units_of_runs}
use Rattle.document.specs.Weight.{weight_of}
use Rattle.document.proofs.Weighing.{runs_more}
use Rattle.document.proofs.weights.runs_weight.Goals as goal

pub loop-run-preserved : goal.loop-run-preserved
loop-run-preserved c =
    let more = runs_more c.args.runs.now c.loop-run.run-index c.run-item.result c.loop-run-test.true c.run-item.is in
    omega (arith, more, c.saturating_add-weight.ensures, c.weight.ensures, c.loop-run.invariant)

pub returns : goal.returns
returns c =
    let all = take_all c.loop-run.run-index c.args.runs.now c.loop-run-test.false in
    omega (arith, ap weight_of (ap units_of_runs all), c.loop-run.invariant)
