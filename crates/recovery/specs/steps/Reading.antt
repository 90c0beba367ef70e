-- What is read of the content of a device, and the steps of it: the entries of the slots, and then one document after the other.
use Rattle.std.specs.Prelude.{◌≡◌, ◌⊎◌, ℕ, ◌&&◌, nat_lt, Bool, true, false, Option, List, Vec, [], ◌∷◌, ◌++◌, length, map, get_or, All}
use Rattle.std.specs.List.{flat_map}
use Rattle.std.specs.declared.alloc.Global.{Global}
use Rattle.revision.specs.Command.{Taken, edits}
use Rattle.revision.specs.State.{State, all_grow, fold}
use Rattle.journal.specs.BatchSpelling.{IsBatch, batch}
use Rattle.history.specs.Entries.{of_document}
use Rattle.history.specs.declared.pick.Pick.{Pick}
use Rattle.history.specs.Cell.{Cell, Pair, picked}
use Rattle.history.specs.Found.{StandFor, unread}
use Rattle.history.specs.Reading.{entered, enters, is_there}
use Rattle.milestone.specs.declared.cells.Cells.{Cells}
use Rattle.milestone.specs.Cells as milestone
use Rattle.segments.specs.Slot.{Segment}
use Rattle.segments.specs.declared.ring.Ring.{Ring}
use Rattle.segments.specs.Ring.{Fits, at_of, size_of, known_numbers}
use Rattle.recovery.specs.declared.shape.Shape.{Shape}
use Rattle.recovery.specs.declared.reading.RecoveredStore.{RecoveredStore}
use Rattle.recovery.specs.Shape.{slots_place}
use Rattle.milestone.specs.declared.format.Format.{Format}
use Rattle.recovery.specs.Layout.{HoldsCellsIn}
use Rattle.recovery.specs.Cells.{IsCellsOf, AreCellsOf, FitEachIn}
use Rattle.recovery.specs.Marks.{marks_of}
use Rattle.recovery.specs.Marked.{AreMarked}
use Rattle.recovery.specs.Found.{limits_in, commands_of, HoldsPartsIn}

-- the ring has the slots of this shape
pub record IsRingOf (shape : Shape) (ring : Ring) : Type 0 where
  pub at : at_of ring ≡ slots_place shape
  pub size : size_of ring ≡ shape.slot
  pub count : length (known_numbers ring) ≡ shape.slots

-- A content was read so, by a pick: it holds parts of this shape, which represent this state, the ring is that of its slots, the cells
-- are those of its documents, and its segments are marked.
pub record IsReadAs (format : Format) (content : List ℕ) (pick : Pick) (recovered : RecoveredStore) : Type 0 where
  pub cells : List Pair
  pub table : List (Option Segment)
  pub batches : List (List Taken)
  pub holds : HoldsPartsIn format content recovered.shape cells table batches
  pub fits : Fits content recovered.ring table
  pub place : IsRingOf recovered.shape recovered.ring
  pub cells_are : AreCellsOf recovered.shape recovered.cells.items
  pub cells_fit : FitEachIn format content recovered.cells.items cells
  pub marked : AreMarked table (marks_of recovered.marks)
  pub stand : StandFor (limits_in format recovered.shape) cells (commands_of batches) pick recovered.state

-- the commands in each vector
abbrev pub lists_of : List (Vec Taken Global) → List (List Taken)
lists_of vectors = map (λ v. v.items) vectors

-- each command is of a document whose number is below this count
abbrev pub are_below : ℕ → List Taken → Bool
are_below docs [] = true
are_below docs (first ∷ others) = nat_lt first.document docs && are_below docs others

-- all of these edit, and all in these vectors do
abbrev pub all_edit : List Taken → Bool
all_edit [] = true
all_edit (first ∷ others) = edits first.step && all_edit others

abbrev pub all_lists_edit : List (Vec Taken Global) → Bool
all_lists_edit [] = true
all_lists_edit (first ∷ others) = all_edit first.items && all_lists_edit others

-- the entries by their documents: at each number stand those of its document, in order
abbrev pub AreByDocument : List Taken → List (List Taken) → Type 0
AreByDocument entries lists = (number : ℕ) → get_or lists number [] ≡ of_document number entries

-- the bodies of each segment spell the batches of one group
pub record SpellGroups (segments : List Segment) (groups : List (List (List Taken))) : Type 0 where
  pub spelled : map (λ segment. segment.bodies) segments ≡ map (λ batches. map batch batches) groups
  pub each : All (λ batches. All IsBatch batches) groups

-- the commands of all groups, in order
abbrev pub commands_in : List (List (List Taken)) → List Taken
commands_in groups = flat_map commands_of groups

-- so many lists have these commands more, each command the list of its document
pub record AreAdded (commands : List Taken) (old new : List (List Taken)) : Type 0 where
  pub count : length new ≡ length old
  pub below : are_below (length old) commands ≡ true
  pub added : (entries : List Taken) → AreByDocument entries old → AreByDocument (entries ++ commands) new

-- A document is added to a state: it is the next one, its cell, where it has one, may be added, and its entries behind that continue
-- it.
pub record IsNextRead (number : ℕ) (cell : Option Cell) (entries : List Taken) (before after : State) : Type 0 where
  pub there : is_there cell entries ≡ true
  pub next : length before.documents ≡ number
  pub enters : enters before cell ≡ true
  pub grow : all_grow (entered before cell) (unread cell entries) ≡ true
  pub is : after ≡ fold (entered before cell) (unread cell entries)

-- What is read of the document of a number: nothing where it has neither a cell nor an entry, else it is added.
abbrev pub IsDocumentRead : ℕ → Option Cell → List Taken → State → State → Type 0
IsDocumentRead number cell entries before after =
    ((is_there cell entries ≡ false) × (after ≡ before)) ⊎ IsNextRead number cell entries before after

-- The cells of the next number are read, and the document from the one that is picked on; what the device holds there is known where it
-- is honest.
pub record IsNext (format : Format) (honest : Type 0) (content : List ℕ) (shape : Shape) (pick : Pick) (entries : List Taken) (known : List Cells) (before : State)
    (now : List Cells) (after : State) : Type 0 where
  pub pair : Pair
  pub cells : Cells
  pub is : now ≡ known ++ cells ∷ []
  pub of : IsCellsOf shape (length known) cells
  pub fits : honest → milestone.FitsIn format content cells pair
  pub read : IsDocumentRead (length known) (picked pick pair) entries before after

-- the cells of all documents were read, and stand with the entries for this state
pub record AreDocumentsRead (format : Format) (content : List ℕ) (shape : Shape) (pick : Pick) (entries : List Taken) (known : List Cells) (state : State) : Type 0 where
  pub pairs : List Pair
  pub holds : HoldsCellsIn format content shape pairs
  pub fit : FitEachIn format content known pairs
  pub stand : StandFor (limits_in format shape) pairs entries pick state
