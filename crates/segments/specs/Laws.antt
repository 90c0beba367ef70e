-- What follows from the definitions of a table: each law is promised by a function of `laws`.
use Rattle.std.specs.Prelude.{◌≡◌, ◌↔◌, ℕ, false, List, [], ◌∷◌, ◌++◌, Option, length}
use Rattle.segments.specs.Slot.{Segment}
use Rattle.segments.specs.Table.{numbers_of, HoldsTable, IsOpened, IsAppended, IsRetired}
use Rattle.segments.specs.Order.{bodies_of}
use Rattle.segments.specs.declared.ring.Ring.{Ring}
use Rattle.segments.specs.Numbers.{IsFull, NumbersDiffer}
use Rattle.segments.specs.Ring.{known_numbers, fits_newest}
use Rattle.segments.specs.Room.{has_room_for}

-- a content holds one table of so many slots at most
abbrev pub OneTable : Type 0
OneTable =
    (at size : ℕ) (content : List ℕ) (a b : List (Option Segment)) → length a ≡ length b → HoldsTable at size content a → HoldsTable at size content b
    → a ≡ b

-- a slot that is opened adds no body
abbrev pub OpenedBodies : Type 0
OpenedBodies = (before after : List (Option Segment)) → IsOpened before after → bodies_of after ≡ bodies_of before

-- open slots have different numbers where one more is opened
abbrev pub OpenedDiffers : Type 0
OpenedDiffers =
    (before after : List (Option Segment)) → NumbersDiffer (numbers_of before) → IsOpened before after → NumbersDiffer (numbers_of after)

-- a body that is appended is the last one
abbrev pub AppendedBodies : Type 0
AppendedBodies =
    (before : List (Option Segment)) (body : List ℕ) (after : List (Option Segment)) → NumbersDiffer (numbers_of before) → IsAppended before body after
    → bodies_of after ≡ bodies_of before ++ body ∷ []

-- a segment that is retired had the first bodies
abbrev pub RetiredBodies : Type 0
RetiredBodies =
    (before after : List (Option Segment)) → NumbersDiffer (numbers_of before) → (retired : IsRetired before after)
    → bodies_of before ≡ retired.segment.bodies ++ bodies_of after

-- a body finds no room exactly when it doesn't fit the newest segment and no slot is free
abbrev pub FullRing : Type 0
FullRing = (ring : Ring) (len : ℕ) → has_room_for ring len ≡ false ↔ (fits_newest ring len ≡ false) × IsFull (known_numbers ring)
