use Rattle.std.proofs.Common.{arith}
use Rattle.document.specs.Pairs.{IsWithinPair}
use Rattle.document.proofs.Cutting.{on_err}
use Rattle.document.proofs.Passing.{passed_on, passed_left, passed_parted}
use Rattle.document.proofs.walk.skip.Goals as goal

pub returns-in_err-left-clause-parted : goal.returns-in_err-left-clause-parted
returns-in_err-left-clause-parted c =
    on_err c.from_residual.result (IsWithinPair c.args.cursor.now c.args.len)
    (passed_parted _ _ _ c.loop-left.left c.args.len c.loop-left.invariant.0 c.in_err-left.ensures.parted (omega (arith, c.loop-left.invariant.1)))

pub loop-left-preserved : goal.loop-left-preserved
loop-left-preserved c = (
  passed_on _ _ _ _ c.in_ok-left.field-0 _ c.loop-left.invariant.0 c.in_ok-left.ensures.passed (omega (arith, c.in_ok-left.ensures.most, c.loop-left.invariant.1)),
  omega (arith, c.loop-left.invariant.1),
  omega (arith, passed_left _ _ _ c.in_ok-left.ensures.passed, c.in_ok-left.ensures.most, c.loop-left.invariant.2),
)
