use Rattle.std.proofs.Common.{arith}
use Rattle.delta.proofs.Places.{place_of-le}
use Rattle.delta.proofs.builder.put.Goals as goal

pub merge_before-requires-clause-place : goal.merge_before-requires-clause-place
merge_before-requires-clause-place c = omega (arith, place_of-le c.as_slice.result.now c.args.op, c.place-at.ensures, c.as_slice.ensures.len)

pub insert-requires : goal.insert-requires
insert-requires c =
    omega (arith, place_of-le c.as_slice.result.now c.args.op, c.place-at.ensures, c.as_slice.ensures.len, c.in_ok-merge_before.ensures.len)
