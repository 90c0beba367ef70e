-- Which parts the content of a device holds, and which state they represent.
use Rattle.std.specs.Prelude.{◌≡◌, ℕ, ◌-◌, true, Option, List, [], map, All}
use Rattle.std.specs.List.{flat_map}
use Rattle.revision.specs.Command.{Taken, edits}
use Rattle.revision.specs.State.{Limits, State}
use Rattle.revision.specs.Agree.{Agree}
use Rattle.journal.specs.BatchSpelling.{IsBatch, batch}
use Rattle.history.specs.declared.pick.Pick.{Pick}
use Rattle.history.specs.Cell.{Pair}
use Rattle.history.specs.Found.{StandFor}
use Rattle.history.specs.Shown.{Order}
use Rattle.history.specs.Running.{Runs}
use Rattle.segments.specs.Slot.{Segment}
use Rattle.segments.specs.Order.{bodies_of}
use Rattle.recovery.specs.declared.shape.Shape.{Shape}
use Rattle.milestone.specs.declared.format.Format.{Format}
use Rattle.milestone.specs.declared.format.Format.TheVariants.{One, Two}
use Rattle.recovery.specs.Layout.{IsLaidOutIn}

-- what a further number of a window weighs: nothing where cells don't have it
abbrev pub retry_in : Format → ℕ
retry_in One = 0
retry_in Two = 8

-- how much a store of this shape may hold
abbrev pub limits_in : Format → Shape → Limits
limits_in format shape = record {
  docs = shape.docs;
  sources = shape.sources;
  weight = shape.cell - 128;
  width = shape.slot - 19;
  keep = shape.keep;
  retry = retry_in format;
}

abbrev pub limits_of : Shape → Limits
limits_of shape = limits_in Two shape

-- a store of this shape without documents
abbrev pub empty_state : Shape → State
empty_state shape = record { limits = limits_of shape; documents = [] }

-- the commands of batches, in order
abbrev pub commands_of : List (List Taken) → List Taken
commands_of batches = flat_map (λ commands. commands) batches

-- Bodies spell batches: each of them is the spelling of one.
pub record SpellBatches (bodies : List (List ℕ)) (batches : List (List Taken)) : Type 0 where
  pub spelled : bodies ≡ map batch batches
  pub each : All IsBatch batches

-- The entries that a format has: the first one has neither deletions nor creations of deleted documents.
abbrev pub AreEntriesIn : Format → List Taken → Type 0
AreEntriesIn One entries = All (λ taken. edits taken.step ≡ true) entries
AreEntriesIn Two entries = Unit {0}

-- What a content holds, by its bytes alone: a shape, two cells for each document number, and for each slot nothing or a segment,
-- whose bodies, the oldest segment's first, spell batches of entries that the format has.
pub record HoldsPartsIn (format : Format) (content : List ℕ) (shape : Shape) (cells : List Pair) (table : List (Option Segment)) (batches : List (List Taken)) : Type 0 where
  pub laid_out : IsLaidOutIn format content shape cells table
  pub spell : SpellBatches (bodies_of table) batches
  pub entries : AreEntriesIn format (commands_of batches)

-- The state that the whole content of a device represents, by a pick of the newer or the older cell of each document. Where a rule
-- fails there is none.
pub record FoundIn (format : Format) (content : List ℕ) (pick : Pick) (state : State) : Type 0 where
  pub shape : Shape
  pub cells : List Pair
  pub table : List (Option Segment)
  pub batches : List (List Taken)
  pub holds : HoldsPartsIn format content shape cells table batches
  pub stand : StandFor (limits_in format shape) cells (commands_of batches) pick state

-- in the second format, which is written
abbrev pub HoldsParts : List ℕ → Shape → List Pair → List (Option Segment) → List (List Taken) → Type 0
HoldsParts content shape cells table batches = HoldsPartsIn Two content shape cells table batches

abbrev pub Found : List ℕ → Pick → State → Type 0
Found content pick state = FoundIn Two content pick state

-- by a pick the content represents a state that agrees with this one
pub record FoundBy (pick : Pick) (content : List ℕ) (state : State) : Type 0 where
  pub there : State
  pub found : Found content pick there
  pub agrees : Agree there state

-- The content is that of a store which runs with this state: its cells and its entries are of one history, of what the store began with
-- and the commands since, which the state shows.
pub record RunsWith (content : List ℕ) (state : State) : Type 0 where
  pub shape : Shape
  pub cells : List Pair
  pub table : List (Option Segment)
  pub batches : List (List Taken)
  pub order : Order
  pub holds : HoldsParts content shape cells table batches
  pub limits : state.limits ≡ limits_of shape
  pub runs : Runs order cells (commands_of batches) state

-- The content represents, by either pick, a state that agrees with this one, and a store that is opened on it continues from there.
pub record FoundAs (content : List ℕ) (state : State) : Type 0 where
  pub by_either : (pick : Pick) → FoundBy pick content state
  pub runs : RunsWith content state
