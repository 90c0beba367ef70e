-- The documents of a store, as a store of other numbers begins with them.
use Rattle.std.specs.Prelude.{◌≡◌, ◌⊎◌, ◌≤◌, ◌+◌, ℕ, List, Some, length, slice_get}
use Rattle.revision.specs.State.{Limits, DocumentRecord, State, newest_revision}
use Rattle.revision.specs.Agree.{Agree, floor_at}
use Rattle.history.specs.Cell.{Cell}
use Rattle.history.specs.declared.pick.Pick.TheVariants.{Newer}
use Rattle.recovery.specs.declared.shape.Shape.{Shape}
use Rattle.recovery.specs.Layout.{Names}
use Rattle.recovery.specs.Found.{Found, FoundAs, limits_of}
use Rattle.recovery.specs.Formatting.{Fits, IsUnformatted}
use Rattle.recovery.specs.Open.{newest_cell}

-- The documents of a state in order of their numbers, each at its newest revision, with its mark, and its sources with their whole windows.
pub record AreCopied (state : State) (start : List Cell) : Type 0 where
  pub count : length start ≡ length state.documents
  pub each : (number : ℕ) (document : DocumentRecord) (cell : Cell) → slice_get state.documents number ≡ Some document → slice_get start number ≡ Some cell
      → cell ≡ newest_cell document

-- A store of these numbers may hold whatever a state within limits holds.
pub record HasRoom (limits : Limits) (shape : Shape) : Type 0 where
  pub docs : limits.docs ≤ shape.docs
  pub cell : limits.weight + 128 ≤ shape.cell
  pub sources : limits.sources ≤ shape.sources

-- It may hold whatever a store of other numbers holds: it has no fewer documents, bytes of a cell and sources.
pub record HasRoomFor (old shape : Shape) : Type 0 where
  pub docs : old.docs ≤ shape.docs
  pub cell : old.cell ≤ shape.cell
  pub sources : old.sources ≤ shape.sources

-- A device of so many bytes has room for a store of this shape, which may hold whatever one of the other shape holds.
pub record Suits (old shape : Shape) (size : ℕ) : Type 0 where
  pub fits : Fits shape size
  pub room : HasRoomFor old shape

-- A content represents a state: this is read of it, or a store that ran with this state has left it.
abbrev pub StandsFor : List ℕ → State → Type 0
StandsFor content state = Found content Newer state ⊎ FoundAs content state

-- A content names this shape, and is found as a store of it that can be opened, whose state agrees with this one but for the limits: each document
-- has its number, its name, its newest revision with its content and its mark, and its sources with their windows. Its past begins there.
pub record IsCopied (shape : Shape) (state : State) (content : List ℕ) : Type 0 where
  pub names : Names content shape
  pub copy : State
  pub found : FoundAs content copy
  pub agrees : Agree copy (record state { limits = limits_of shape })
  pub newest : (number : ℕ) → floor_at copy number ≡ newest_revision (slice_get copy.documents number)

-- what a crash may leave of the new device
abbrev pub IsUnformattedOrCopied : Shape → State → List ℕ → Type 0
IsUnformattedOrCopied shape state content = IsUnformatted content ⊎ IsCopied shape state content
