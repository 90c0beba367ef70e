use Rattle.std.proofs.Common.{◌≡◌, ◌+◌, take, arith}
use Rattle.utf16.specs.Begun.{begun_in}
use Rattle.utf16.proofs.Begun.{begun_in-take-add, begun_in-take-le}
use Rattle.utf16.proofs.cut.blocks_before.Goals as goal
use Rattle.utf16.proofs.cut.blocks_before.Goals.{After-from-more}

with_block : (c : After-from-more) → c.loop-bytes.units + c.from-more.result ≡ begun_in (take (c.loop-bytes.bytes + 64) c.args.all.now)
with_block c =
    omega (arith, c.loop-bytes.invariant.1, c.from-more.ensures, c.units_in_block.ensures, begun_in-take-add c.args.all.now c.loop-bytes.bytes 64)

pub overflow_add-units : goal.overflow_add-units
overflow_add-units c =
    let at = (goal.at.overflow_add-units c).After-from-more in
    omega (arith, with_block at, c.loop-bytes-test.true, begun_in-take-le c.args.all.now (c.loop-bytes.bytes + 64) c.loop-bytes-test.true)

pub loop-bytes-preserved : goal.loop-bytes-preserved
loop-bytes-preserved c = (c.loop-bytes-test.true, with_block (goal.at.loop-bytes-preserved c).After-from-more, c.if-units-more.false)
