use Rattle.std.proofs.Common.{◌+◌, length, arith, ap}
use Rattle.std.proofs.lemmas.List.{take_all}
use Rattle.document.specs.Runs.{units_of_runs}
use Rattle.document.proofs.Joined.{length-one_more, length-before}
use Rattle.document.proofs.weights.runs_units.Goals as goal

pub overflow_add-units : goal.overflow_add-units
overflow_add-units c =
    let more = length-one_more c.args.runs.now c.loop-run.run-index c.run-item.result c.loop-run-test.true c.run-item.is in
    omega (arith, more, length-before c.args.runs.now (c.loop-run.run-index + 1), c.requires, c.loop-run.invariant, c.units-units.ensures.units)

pub loop-run-preserved : goal.loop-run-preserved
loop-run-preserved c =
    let more = length-one_more c.args.runs.now c.loop-run.run-index c.run-item.result c.loop-run-test.true c.run-item.is in
    omega (arith, more, c.loop-run.invariant, c.units-units.ensures.units)

pub returns : goal.returns
returns c =
    let all = take_all c.loop-run.run-index c.args.runs.now c.loop-run-test.false in
    omega (arith, ap (λ l. length (units_of_runs l)) all, c.loop-run.invariant)
