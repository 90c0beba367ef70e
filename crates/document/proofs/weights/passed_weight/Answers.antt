use Rattle.std.proofs.Common.{◌-◌, arith, subst}
use Rattle.attributes.specs.Map.{empty}
use Rattle.document.specs.steps.Weighing.{IsRetainedWeighed}
use Rattle.document.proofs.Measured.{kept_none, kept_on}
use Rattle.document.proofs.Passing.{passed_left, passed_whole_on}
use Rattle.document.proofs.weights.passed_weight.Goals as goal

pub loop-left-init : goal.loop-left-init
loop-left-init c = record {
  passed = kept_none _ empty _ (omega arith);
  less = omega arith;
  there = c.requires.there;
  whole = c.requires.whole;
}

pub loop-left-preserved : goal.loop-left-preserved
loop-left-preserved c =
    let step = c.passed_next_weight-units.ensures.passed in
    let most = c.passed_next_weight-units.ensures.most in
    let stepped = c.passed_next_weight-units.result.0 in
    record {
      passed =
          kept_on _ _ _ _ (c.args.len - c.loop-left.left) stepped _ c.loop-left.weight _ _ c.loop-left.invariant.passed step
          (omega (arith, most, c.loop-left.invariant.less)) c.saturating_add-weight.ensures;
      less = omega (arith, c.loop-left.invariant.less);
      there = omega (arith, passed_left _ _ _ step.passed, most, c.loop-left.invariant.there);
      whole = passed_whole_on _ _ stepped _ _ step.passed c.loop-left.invariant.whole (omega (arith, most));
    }

pub returns : goal.returns
returns c =
    subst (λ n. IsRetainedWeighed c.args.cursor.now c.loop-left.cursor n empty c.loop-left.weight) (omega (arith, c.loop-left.invariant.less)) c.loop-left.invariant.passed
