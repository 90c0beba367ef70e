use Rattle.std.proofs.Common.{arith}
use Rattle.segments.proofs.Numbering.{number_inside}
use Rattle.segments.proofs.numbers.differ.Goals as goal

pub returns-clause-differ : goal.returns-clause-differ
returns-clause-differ c is one other n has_one has_other =
    let numbers = c.args.numbers.now in
    c.loop-slot.invariant one other n (omega (arith, c.loop-slot-test.false, number_inside numbers one n has_one)) (omega (arith, c.loop-slot-test.false, number_inside numbers other n has_other)) has_one has_other
