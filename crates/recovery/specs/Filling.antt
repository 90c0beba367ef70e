-- How full the journal of an open store is.
use Rattle.std.specs.Prelude.{ℕ}
use Rattle.disk.specs.declared.device.Disk.{Ghosts}
use Rattle.segments.specs.Numbers.{newest_number, open_count}
use Rattle.segments.specs.Ring.{known_numbers, used_bytes}
use Rattle.recovery.specs.declared.shape.Shape.{Shape}
use Rattle.recovery.specs.declared.store.Store.{Store}
use Rattle.recovery.specs.Open.{ring_of}

module _ {D : Type 0} {disk : Ghosts D} where
  -- the numbers that it was made with
  abbrev pub shape_of : Store D disk → Shape
  shape_of store = store.shape

  -- how many slots of its journal are open
  abbrev pub open_slots : Store D disk → ℕ
  open_slots store = open_count (known_numbers (ring_of store))

  -- how many bytes of its journal are in use
  abbrev pub journal_bytes : Store D disk → ℕ
  journal_bytes store = used_bytes (ring_of store)

  -- the number of its newest segment, 0 where no slot is open
  abbrev pub newest_segment : Store D disk → ℕ
  newest_segment store = newest_number (known_numbers (ring_of store))
