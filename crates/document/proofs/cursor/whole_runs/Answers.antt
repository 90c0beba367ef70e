use Rattle.std.proofs.Common.{arith}
use Rattle.document.proofs.Joined.{length-one_more}
use Rattle.document.proofs.cursor.whole_runs.Goals as goal

pub loop-count-preserved : goal.loop-count-preserved
loop-count-preserved c =
    let more = length-one_more c.args.runs.now c.loop-count.count c.index-runs-count.result c.loop-count-test.true c.index-runs-count.is in
    record {
      units = omega (arith, more, c.loop-count.invariant.units, c.units-units.ensures.units);
      most = omega (arith, c.units.ensures.units, c.units-units.ensures.units, c.if-units-most.false, c.loop-count.invariant.most);
    }
