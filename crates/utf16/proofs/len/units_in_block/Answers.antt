use Rattle.std.proofs.Common.{◌+◌, arith}
use Rattle.utf16.proofs.Begun.{begun_in-take, begun_in-take-le}
use Rattle.utf16.proofs.len.units_in_block.Goals as goal

pub loop-at-preserved : goal.loop-at-preserved
loop-at-preserved c =
    let bytes = c.args.bytes.now in
    let at = c.loop-at.at in (
      omega (arith, c.loop-at-test.true),
      omega (
        arith,
        c.loop-at.invariant.1,
        c.units_begun-units.ensures,
        c.requires,
        c.loop-at-test.true,
        begun_in-take bytes at c.loop-at-test.true,
        begun_in-take-le bytes (at + 1) (omega (arith, c.loop-at-test.true)),
      ),
    )
