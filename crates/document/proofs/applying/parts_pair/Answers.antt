use Rattle.std.proofs.Common.{ap, sym, ◌∙◌, arith}
use Rattle.delta.specs.Operation.{base_of}
use Rattle.document.specs.steps.Passes.{IsSteppedOver}
use Rattle.document.proofs.Passing.{length-parts}
use Rattle.document.proofs.Progress.{when_ok, drop-here, parts_next, parts_before}
use Rattle.document.proofs.applying.parts_pair.Goals as goal

pub loop-op-preserved : goal.loop-op-preserved
loop-op-preserved c =
    let old = c.loop-op.cursor in
    let new = c.skip.new.cursor in
    let passed = when_ok c.skip.result (IsSteppedOver old new c.base_len.result) (sym c.is_err.ensures.value ∙ c.if-is_err.false) c.skip.ensures.passed in
    let here = drop-here c.args.ops.now c.loop-op.op-index c.op-item.result c.loop-op-test.true c.op-item.is in
    record {
      there = omega (arith, ap base_of here, c.loop-op.invariant.there, length-parts old new passed.taken (sym passed.parts), passed.count, c.base_len.ensures);
      ahead = λ parted. parts_next old new c.base_len.result c.op-item.result _ _ passed c.base_len.ensures here (c.loop-op.invariant.ahead parted);
      back = λ parted. c.loop-op.invariant.back (parts_before old new passed.taken c.op-item.result _ _ passed.parts (passed.count ∙ c.base_len.ensures) here parted);
    }
