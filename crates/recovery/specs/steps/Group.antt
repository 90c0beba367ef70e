-- Milestones of many documents put together: the steps on the way to where both cells of each of the documents hold its own.
use Rattle.std.specs.Prelude.{◌≡◌, ◌⊎◌, ℕ, ◌+◌, ◌*◌, ◌≤◌, ◌<◌, ◌==◌, ◌||◌, not, if◌then◌else◌, Bool, true, false, Option, Some, None, List, [], ◌∷◌, length, take, get_or, filter, slice_get, Contains}
use Rattle.disk.specs.declared.device.Disk.{Ghosts}
use Rattle.disk.specs.Apart.{IsApart}
use Rattle.disk.specs.Calls.{HasOnlyWritten}
use Rattle.disk.specs.Counted.{Costs}
use Rattle.disk.specs.Crash.{LeavesOnly}
use Rattle.disk.specs.Device.{SameOutside}
use Rattle.journal.specs.Area.{frame}
use Rattle.revision.specs.Past.{empty_past}
use Rattle.revision.specs.State.{State, DocumentRecord, revision_of}
use Rattle.history.specs.Cell.{Cell, Pair, cells_at, freed}
use Rattle.milestone.specs.CellSpelling.{IsCell, cell_body}
use Rattle.milestone.specs.declared.cells.Cells.{Cells}
use Rattle.milestone.specs.Cells.{Fits, HasClosed, revisions_of, with_cell}
use Rattle.milestone.specs.Job.{Job, cell_of_job}
use Rattle.milestone.specs.OneCell.{HoldsPair}
use Rattle.milestone.specs.Revisions.{revisions_in}
use Rattle.milestone.specs.Together.{IsReady}
use Rattle.recovery.specs.declared.group.Member.{Member}
use Rattle.recovery.specs.declared.shape.Shape.{Shape}
use Rattle.recovery.specs.declared.store.Store.{Store}
use Rattle.recovery.specs.Shape.{cells_place, slots_place}
use Rattle.recovery.specs.Cells.{AreCellsOf, highest_known}
use Rattle.recovery.specs.Open.{IsOpen, AreBothNewest, newest_cell, state_of, known_cells, kept_jobs}

-- a document is one of members
abbrev pub is_in : List Member → ℕ → Bool
is_in [] number = false
is_in (member ∷ members) number = (member.document == number) || is_in members number

-- what holds of each member
abbrev pub Each : List Member → (Member → Type 0) → Type 0
Each members P = (k : ℕ) (member : Member) → k < length members → get_or members k member ≡ member → P member

-- no document is that of two members
abbrev pub AreDistinct : List Member → Type 0
AreDistinct members = (k : ℕ) (member : Member) → k < length members → get_or members k member ≡ member → is_in (take k members) member.document ≡ false

-- one pair for each document of members, and another one for each other document
abbrev pub part : List Member → (ℕ → Pair) → (ℕ → Pair) → ℕ → Pair
part members own others number = if is_in members number then own number else others number

-- the pairs with a cell put for each member, over the older one where both are open
abbrev pub put_in : List Member → (ℕ → Cell) → (ℕ → Pair) → ℕ → Pair
put_in members cells held = part members (λ number. with_cell (cells number) (freed (held number))) held

-- the jobs of other documents than those of members
abbrev pub outside_jobs : List Member → List Job → List Job
outside_jobs members jobs = filter (λ job. not (is_in members job.document)) jobs

-- contents that are the same but for the cells of a shape, which lie between the superblock and the slots
abbrev pub SameOutsideCells : Shape → List ℕ → List ℕ → Type 0
SameOutsideCells shape old content = SameOutside 64 (2 * shape.docs * shape.cell) old content

-- the cells of a document hold a pair that they may
pub record HoldsOne (shape : Shape) (number : ℕ) (May : Pair → Type 0) (content : List ℕ) : Type 0 where
  pub pair : Pair
  pub may : May pair
  pub holds : HoldsPair (cells_place shape number) shape.cell number content pair

-- What a crash leaves: nothing but cells has changed, and those of each document hold a pair that they may.
pub record IsLeftTogether (shape : Shape) (old : List ℕ) (May : ℕ → Pair → Type 0) (content : List ℕ) : Type 0 where
  pub outside : SameOutsideCells shape old content
  pub each : (number : ℕ) → number < shape.docs → HoldsOne shape number (May number) content

-- the pair before, or the one without its older cell
abbrev pub MayBeFreed : (ℕ → Pair) → ℕ → Pair → Type 0
MayBeFreed held number pair = (pair ≡ held number) ⊎ (pair ≡ freed (held number))

-- the pair before, or for a member's document the one with the member's cell
abbrev pub MayBePut : List Member → (ℕ → Cell) → (ℕ → Pair) → ℕ → Pair → Type 0
MayBePut members cells held number pair = (pair ≡ held number) ⊎ ((is_in members number ≡ true) × (pair ≡ with_cell (cells number) (held number)))

-- one of those, or the one with the member's cell over the older one
abbrev pub MayBeReplaced : List Member → (ℕ → Cell) → (ℕ → Pair) → ℕ → Pair → Type 0
MayBeReplaced members cells held number pair =
    MayBeFreed held number pair ⊎ ((is_in members number ≡ true) × (pair ≡ with_cell (cells number) (freed (held number))))

-- the same twice
abbrev pub MayBeTwice : List Member → (ℕ → Cell) → (ℕ → Pair) → ℕ → Pair → Type 0
MayBeTwice members cells held number pair =
    MayBeReplaced members cells held number pair ⊎ MayBeReplaced members cells (put_in members cells held) number pair

-- the cells that are known are those of a content, which hold these pairs
abbrev pub Stand : (ℕ → Pair) → List Cells → List ℕ → Type 0
Stand held known content = (number : ℕ) (cells : Cells) → slice_get known number ≡ Some cells → Fits content cells (held number)

-- The bytes of a member are the spelling of a cell of its revision, for which its document's cells have room.
pub record Spells (shape : Shape) (cell : Cell) (member : Member) : Type 0 where
  pub is : IsCell member.document cell
  pub fits : 5 + length (cell_body member.document cell) ≤ shape.cell
  pub bytes : member.bytes.items ≡ frame (cell_body member.document cell)
  pub revision : cell.revision ≡ member.revision

abbrev pub AreSpelled : Shape → (ℕ → Cell) → List Member → Type 0
AreSpelled shape cells members = Each members (λ member. Spells shape (cells member.document) member)

-- behind the closed gate of each member's document its cell is spelled
abbrev pub AreReady : List Member → (ℕ → Cell) → List Cells → List ℕ → Type 0
AreReady members cells known content = (number : ℕ) (one : Cells) → is_in members number ≡ true → slice_get known number ≡ Some one → IsReady one (cells number) content

-- and of each behind the first so many
abbrev pub AreWaiting : List Member → ℕ → (ℕ → Cell) → List Cells → List ℕ → Type 0
AreWaiting members k cells known content =
    (number : ℕ) (one : Cells) → is_in members number ≡ true → is_in (take k members) number ≡ false → slice_get known number ≡ Some one → IsReady one (cells number) content

-- one cell of each member's document is closed
abbrev pub AreHalf : List Member → (ℕ → Pair) → Type 0
AreHalf members held = (number : ℕ) → is_in members number ≡ true → HasClosed (revisions_in (held number))

-- one cell of each member's document is known to be closed, so that none is to be closed for it
abbrev pub HaveClosed : List Member → List Cells → Type 0
HaveClosed members known = Each members (λ member. (one : Cells) → slice_get known member.document ≡ Some one → HasClosed (revisions_of one))

-- The cells that are known lie as a shape says, within so many bytes, and the documents and the bytes of members are such as they may be there.
pub record HasPlaces (members : List Member) (known : List Cells) (count : ℕ) : Type 0 where
  pub shape : Shape
  pub placed : AreCellsOf shape known
  pub within : slots_place shape ≤ count
  pub inside : Each members (λ member. member.document < shape.docs)
  pub short : Each members (λ member. 1 + length member.bytes.items ≤ shape.cell)

module _ {D : Type 0} (disk : Ghosts D) where
  -- a synced device whose cells hold these pairs, and members each of its own document
  pub record StandTogether (shape : Shape) (members : List Member) (held : ℕ → Pair) (known : List Cells) (now : D) : Type 0 where
    pub distinct : AreDistinct members
    pub placed : AreCellsOf shape known
    pub synced : disk.unsynced now ≡ []
    pub stand : Stand held known (disk.seen now)

  -- Calls that write to cells alone, so many at most, and make so many syncs. What is known of the cells stays in its places.
  pub record WriteCells (most_calls most_syncs : ℕ) (known later : List Cells) (old new : D) : Type 0 where
    pub placed : (shape : Shape) → AreCellsOf shape known → AreCellsOf shape later
    pub outside : (shape : Shape) → AreCellsOf shape known → SameOutsideCells shape (disk.seen old) (disk.seen new)
    pub costs : Costs disk most_calls most_syncs old new
    pub only_written : HasOnlyWritten disk old new

  -- Some of the members have had their step: a crash since the start leaves what may be, the cells of those documents hold what they are to, and no
  -- range of the others' is unsynced.
  pub record IsUnderWay (shape : Shape) (members : List Member) (k : ℕ) (May : ℕ → Pair → Type 0) (held : ℕ → Pair) (start now : D) (known : List Cells) : Type 0 where
    pub left : LeavesOnly disk (IsLeftTogether shape (disk.seen start) May) start now
    pub stand : Stand held known (disk.seen now)
    pub apart : (number : ℕ) → number < shape.docs → is_in (take k members) number ≡ false
        → IsApart (cells_place shape number) (2 * shape.cell) (disk.unsynced now)

-- the newest cell of a document, of one that isn't there an empty one
abbrev pub newest_in : Option DocumentRecord → Cell
newest_in None = newest_cell (record { name = []; past = empty_past })
newest_in (Some found) = newest_cell found

abbrev pub newest_at : State → ℕ → Cell
newest_at state number = newest_in (slice_get state.documents number)

module _ {D : Type 0} {disk : Ghosts D} where
  -- A member is the newest milestone of its document, which isn't below the document's open cells.
  pub record IsNewestOf (store : Store D disk) (member : Member) : Type 0 where
    pub found : DocumentRecord
    pub there : slice_get (state_of store).documents member.document ≡ Some found
    pub first : 1 ≤ revision_of found
    pub inside : member.document < length (known_cells store)
    pub not_below : highest_known (known_cells store) member.document ≤ revision_of found
    pub spells : Spells store.shape (newest_cell found) member

  -- newest milestones, each of its own document
  pub record IsGroup (members : List Member) (store : Store D disk) : Type 0 where
    pub distinct : AreDistinct members
    pub newest : Each members (IsNewestOf store)

  -- The milestones of a group were put: the store is open over the same slots, both cells of each of its documents hold it at its newest revision,
  -- and those of the others are unchanged.
  pub record IsGroupPut (members : List Member) (old : Store D disk) (is_open : IsOpen old) (new : Store D disk) : Type 0 where
    pub goes_on : IsOpen new
    pub same_table : goes_on.table ≡ is_open.table
    pub others : (number : ℕ) → is_in members number ≡ false → cells_at goes_on.cells number ≡ cells_at is_open.cells number
    pub own : (number : ℕ) → is_in members number ≡ true → AreBothNewest (state_of old) number (cells_at goes_on.cells number)

  -- A member is what comes of a composed job that the store keeps.
  pub record IsMadeOfKept (composed : List Job) (store : Store D disk) (member : Member) : Type 0 where
    pub job : Job
    pub among : Contains composed job
    pub kept : Contains (kept_jobs store) job
    pub of : member.document ≡ job.document
    pub spells : Spells store.shape (cell_of_job job) member

  -- What comes of those of composed jobs that the store keeps, each document once.
  pub record AreKept (composed : List Job) (members : List Member) (store : Store D disk) : Type 0 where
    pub distinct : AreDistinct members
    pub made : Each members (IsMadeOfKept composed store)
    pub all : (job : Job) → Contains composed job → Contains (kept_jobs store) job → is_in members job.document ≡ true
