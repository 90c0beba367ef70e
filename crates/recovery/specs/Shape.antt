-- The numbers that a store is made with, and where its parts lie on the device.
use Rattle.std.specs.Prelude.{ℕ, ◌+◌, ◌*◌, ◌&&◌, nat_le, Bool, List, ◌++◌, codes}
use Rattle.std.specs.Int.{w32, to_le_bytes}
use Rattle.milestone.specs.declared.format.Format.{Format}
use Rattle.milestone.specs.declared.format.Format.TheVariants.{One, Two}
use Rattle.recovery.specs.declared.shape.Shape.{Shape}

-- low and high count
abbrev pub is_between : ℕ → ℕ → ℕ → Bool
is_between low high n = nat_le low n && nat_le n high

-- each number is in its range
abbrev pub is_in_range : Shape → Bool
is_in_range shape =
    is_between 2 1024 shape.slots && is_between 256 16777216 shape.slot && is_between 1 65536 shape.docs
    && is_between 256 16777216 shape.cell && is_between 1 4096 shape.sources && is_between 1 65536 shape.keep

-- where the k-th cell begins; each document has two
abbrev pub cell_place : Shape → ℕ → ℕ
cell_place shape k = 64 + k * shape.cell

-- where the two cells of the document of a number begin, one behind the other
abbrev pub cells_place : Shape → ℕ → ℕ
cells_place shape number = 64 + number * (2 * shape.cell)

-- where the slots begin, one behind another
abbrev pub slots_place : Shape → ℕ
slots_place shape = 64 + 2 * shape.docs * shape.cell

-- how many bytes the layout has
abbrev pub layout_length : Shape → ℕ
layout_length shape = 64 + 2 * shape.docs * shape.cell + shape.slots * shape.slot

-- the letters of a format
abbrev pub letters : Format → List ℕ
letters One = codes "QDSTORE1"
letters Two = codes "QDSTORE2"

-- the 32 bytes behind the superblock's gate: the letters of the format, and the six numbers
abbrev pub superblock_in : Format → Shape → List ℕ
superblock_in format shape =
    letters format ++ (to_le_bytes w32 shape.slots ++ (to_le_bytes w32 shape.slot ++ (to_le_bytes w32 shape.docs
    ++ (to_le_bytes w32 shape.cell ++ (to_le_bytes w32 shape.sources ++ to_le_bytes w32 shape.keep)))))

-- in the second format, which is written
abbrev pub superblock : Shape → List ℕ
superblock shape = superblock_in Two shape
