use Rattle.std.proofs.Common.{◌-◌, refl, ap, subst, arith}
use Rattle.delta.specs.Operation.{op_base, op_out}
use Rattle.compose.specs.steps.SteppingBack.{IsTakenBack}
use Rattle.compose.proofs.StepsBack.{none_back, more_back, base_for, out_parts, whole_units}
use Rattle.compose.proofs.WayBack.{left_length, left_whole}
use Rattle.compose.proofs.undoing.bring_back.Goals as goal

pub loop-len-init : goal.loop-len-init
loop-len-init c = record {
  back = none_back _ c.args.op.now _ _ c.requires.stands (omega (arith, c.base_len-len.ensures));
  less = omega (arith, c.base_len-len.ensures);
  there = omega (arith, c.base_len-len.ensures, c.requires.there);
  whole = rw c.base_len-len.ensures c.requires.whole;
}

pub bring_next_back-requires : goal.bring_next_back-requires
bring_next_back-requires c =
    let op = c.args.op.now in
    let all = op_base op in
    let len = c.loop-len.len in
    let so = c.loop-len.invariant in
    record {
      stands = c.requires.stands;
      some = omega (arith, c.loop-len-test.true);
      there = so.there;
      whole = so.whole;
      base = omega (arith, so.back.base, so.less, out_parts op (all - len) len all c.requires.stands (omega (arith, so.less)), ap op_out (whole_units op all c.requires.stands refl), c.requires.base);
      out = omega (arith, so.back.out, so.less, base_for op (all - len) c.requires.stands, c.requires.out);
    }

pub loop-len-preserved : goal.loop-len-preserved
loop-len-preserved c =
    let op = c.args.op.now in
    let all = op_base op in
    let len = c.loop-len.len in
    let so = c.loop-len.invariant in
    let step = c.in_ok-len.ensures.back in
    let more = c.in_ok-len.field-0 in
    let some = c.in_ok-len.ensures.most in
    let count = base_for op more c.requires.stands in
    record {
      back = more_back _ _ _ op _ _ _ (all - len) more (all - (len - more)) c.requires.stands so.back step (omega (arith, so.less, some));
      less = omega (arith, so.less);
      there = omega (arith, left_length _ _ step.taken step.parts, step.count, count, so.there, some);
      whole = left_whole _ _ step.taken len (len - more) step.parts (omega (arith, step.count, count, some)) so.whole;
    }

pub returns : goal.returns
returns c = record {
  back =
      let op = c.args.op.now in
      let none = c.loop-len-test.false in
      subst (λ o. IsTakenBack c.args.left.now c.loop-len.left o c.args.made.now c.loop-len.made)
      (whole_units op (op_base op - c.loop-len.len) c.requires.stands (omega (arith, none))) c.loop-len.invariant.back;
}
