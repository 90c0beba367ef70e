-- Whether a shape has room for what a store of another one holds, told by that one's limits.
use Rattle.std.proofs.Common.{◌≡◌, true, ap, arith}
use Rattle.revision.specs.State.{Limits}
use Rattle.recovery.specs.declared.shape.Shape.{Shape}
use Rattle.recovery.specs.Shape.{is_in_range}
use Rattle.recovery.specs.Found.{limits_of}
use Rattle.recovery.proofs.Superblocks.{ranges_of}
use Rattle.migration.specs.Copied.{HasRoom, HasRoomFor}

pub by_limits : (limits : Limits) (old shape : Shape) → is_in_range old ≡ true → limits ≡ limits_of old → HasRoomFor old shape → HasRoom limits shape
by_limits limits old shape in_range same room =
    let ranges = ranges_of old in_range in
    record {
      docs = omega (arith, room.docs, ap (λ (l : Limits). l.docs) same);
      cell = omega (arith, room.cell, ranges.cell_low, ap (λ (l : Limits). l.weight) same);
      sources = omega (arith, room.sources, ap (λ (l : Limits). l.sources) same);
    }

pub by_shape : (limits : Limits) (old shape : Shape) → is_in_range old ≡ true → limits ≡ limits_of old → HasRoom limits shape → HasRoomFor old shape
by_shape limits old shape in_range same room =
    let ranges = ranges_of old in_range in
    record {
      docs = omega (arith, room.docs, ap (λ (l : Limits). l.docs) same);
      cell = omega (arith, room.cell, ranges.cell_low, ap (λ (l : Limits). l.weight) same);
      sources = omega (arith, room.sources, ap (λ (l : Limits). l.sources) same);
    }
