use Rattle.std.proofs.Common.{◌≡◌, ◌+◌, ap, arith}
use Rattle.utf16.specs.Begun.{begun_in}
use Rattle.utf16.proofs.Begun.{begun_in-halves, begun_in-text}
use Rattle.utf16.proofs.CodeUnits.{length-units_of-le}
use Rattle.utf16.proofs.len.len16.Goals as goal
use Rattle.utf16.proofs.len.len16.Goals.{After-from-units}

turn : (c : After-from-units) → c.loop-rest.units + c.from-units.result + begun_in c.split_at.result.1.now ≡ begun_in c.args.text.now
turn c =
    omega (
      arith,
      c.loop-rest.invariant,
      c.from-units.ensures,
      c.units_in_block.ensures,
      ap begun_in c.split_at.ensures.front,
      ap begun_in c.split_at.ensures.back,
      begun_in-halves c.loop-rest.rest.now 64,
    )

pub loop-rest-init : goal.loop-rest-init
loop-rest-init c = omega (arith, ap begun_in c.as_bytes-rest.ensures.value)

pub overflow_add-units : goal.overflow_add-units
overflow_add-units c =
    omega (arith, turn (goal.at.overflow_add-units c).After-from-units, begun_in-text c.args.text.now c.utf8.text, length-units_of-le c.args.text.now c.utf8.text)

pub loop-rest-preserved : goal.loop-rest-preserved
loop-rest-preserved c = turn (goal.at.loop-rest-preserved c).After-from-units

pub overflow_add-result : goal.overflow_add-result
overflow_add-result c =
    omega (arith, c.loop-rest.invariant, c.from.ensures, c.units_in_block-2.ensures, begun_in-text c.args.text.now c.utf8.text, length-units_of-le c.args.text.now c.utf8.text)

pub returns : goal.returns
returns c = omega (arith, c.loop-rest.invariant, c.from.ensures, c.units_in_block-2.ensures, begun_in-text c.args.text.now c.utf8.text)
