-- Making room in a full journal: the steps on the way to where nothing needs the oldest segment.
use Rattle.std.specs.Prelude.{◌≡◌, ◌≢◌, ◌⊎◌, ℕ, ◌+◌, ◌-◌, ◌*◌, ◌≤◌, ◌<◌, nat_lt, true, List, [], ◌∷◌, ◌++◌, length, take, get_or, filter, slice_get}
use Rattle.disk.specs.declared.device.Disk.{Ghosts}
use Rattle.disk.specs.Counted.{synced_moments}
use Rattle.disk.specs.Crash.{history_of}
use Rattle.revision.specs.State.{State, newest_revision}
use Rattle.history.specs.Cell.{cells_at}
use Rattle.recovery.specs.declared.group.Member.{Member}
use Rattle.recovery.specs.declared.marks.Mark.{Mark}
use Rattle.recovery.specs.declared.store.Store.{Store}
use Rattle.recovery.specs.Freed.{bytes_below, most_bytes}
use Rattle.recovery.specs.Jobs.{jobs_for}
use Rattle.recovery.specs.Marks.{greatest_marked}
use Rattle.recovery.specs.Open.{IsOpen, IsLeft, IsRaised, AreBothNewest, device_of, state_of, ring_of, known_marks, kept_jobs}
use Rattle.recovery.specs.steps.Group.{SameOutsideCells, is_in, IsGroup}

-- the newest revision of a document, by its number
abbrev pub reached_in : State → ℕ → ℕ
reached_in state document = newest_revision (slice_get state.documents document)

-- A table has for each document the greatest revision that is marked of it, 0 where none is. So many documents are marked there.
abbrev pub count_marked : List ℕ → ℕ
count_marked marked = length (filter (nat_lt 0) marked)

-- each document has reached what is marked of it
abbrev pub AreReached : List ℕ → State → Type 0
AreReached marked state = (document : ℕ) → get_or marked document 0 ≤ reached_in state document

-- the bytes of the newest milestones of those that are marked below a number
abbrev pub bytes_to : List ℕ → State → ℕ → ℕ
bytes_to marked state bound = bytes_below state (λ document. get_or marked document 0) bound

-- the bytes of members
abbrev pub bytes_of : List Member → ℕ
bytes_of [] = 0
bytes_of (member ∷ members) = length member.bytes.items + bytes_of members

-- Members have little memory: all of them but the last have fewer bytes than fill a group.
abbrev pub AreBounded : List Member → Type 0
AreBounded members = (front : List Member) (last : Member) → members ≡ front ++ last ∷ [] → bytes_of front < most_bytes

-- The documents below `from` are covered by so many groups. Each group before the last was full, and the last one too, while documents are
-- left.
pub record AreFull (marked : List ℕ) (state : State) (from groups : ℕ) : Type 0 where
  pub before : most_bytes * (groups - 1) ≤ bytes_to marked state from
  pub last : from < length marked → most_bytes * groups ≤ bytes_to marked state from

module _ {D : Type 0} {disk : Ghosts D} where
  -- calls that make six syncs at most for each of so many groups, and end with the first one that fails
  pub record SyncsBy (groups : ℕ) (old new : Store D disk) : Type 0 where
    pub syncs : synced_moments (history_of disk (device_of new)) ≤ synced_moments (history_of disk (device_of old)) + 6 * groups
    pub faults : disk.faults (device_of new) ≤ disk.faults (device_of old) + 1

  -- the documents stay, and so do the segments and what is known of them
  pub record KeepsSegments (old new : Store D disk) : Type 0 where
    pub state : state_of new ≡ state_of old
    pub ring : ring_of new ≡ ring_of old
    pub marks : known_marks new ≡ known_marks old

  -- calls that change cells alone, whatever the device holds
  pub record ChangesCells (old new : Store D disk) : Type 0 where
    pub shape : new.shape ≡ old.shape
    pub outside : SameOutsideCells old.shape (disk.seen (device_of old)) (disk.seen (device_of new))

  -- The members are the newest milestones of the marked documents from one number up to another.
  pub record IsGathered (marked : List ℕ) (from end : ℕ) (members : List Member) (store : Store D disk) : Type 0 where
    pub group : IsGroup members store
    pub each : (document : ℕ) → from ≤ document → document < end → 1 ≤ get_or marked document 0 → is_in members document ≡ true
    pub only : (document : ℕ) → is_in members document ≡ true → (from ≤ document) × (document < end) × (1 ≤ get_or marked document 0)
    pub count : count_marked (take from marked) + length members ≡ count_marked (take end marked)
    pub bytes : bytes_to marked (state_of store) from + bytes_of members ≡ bytes_to marked (state_of store) end

  -- The marked documents of numbers below a bound are covered: the store is open over the same slots, both cells of each of them hold it at its
  -- newest revision, and no job of it is kept. The other documents are left unchanged.
  pub record AreCoveredTo (bound : ℕ) (marked : ℕ → ℕ) (old : Store D disk) (is_open : IsOpen old) (new : Store D disk) : Type 0 where
    pub goes_on : IsOpen new
    pub same_table : goes_on.table ≡ is_open.table
    pub spared : (document : ℕ) → (bound ≤ document) ⊎ (marked document ≡ 0) → IsLeft old is_open new goes_on document
    pub raised : (document : ℕ) → document < bound → 1 ≤ marked document → IsRaised old new goes_on document

  -- It was given up: the store is open over the same slots. One marked document has its cells unchanged, and no kept job. Each other one is left
  -- unchanged, or has both its milestones; and those that aren't marked are left unchanged.
  pub record IsHalfCovered (marked : ℕ → ℕ) (old : Store D disk) (is_open : IsOpen old) (new : Store D disk) : Type 0 where
    pub goes_on : IsOpen new
    pub same_table : goes_on.table ≡ is_open.table
    pub spared : (document : ℕ) → marked document ≡ 0 → IsLeft old is_open new goes_on document
    pub under_way : ℕ
    pub needs : 1 ≤ marked under_way
    pub own : cells_at goes_on.cells under_way ≡ cells_at is_open.cells under_way
    pub dropped : jobs_for under_way (kept_jobs new) ≡ []
    pub others : (document : ℕ) → document ≢ under_way → 1 ≤ marked document → IsLeft old is_open new goes_on document ⊎ IsRaised old new goes_on document

  -- The documents of the marks of a segment are covered: the store is open over the same slots. The cells of a document without a mark are as
  -- they were, and so are its kept jobs; both cells of each other document hold it at its newest revision, and no job of it is kept.
  pub record AreCovered (segment : ℕ) (marks : List Mark) (old : Store D disk) (is_open : IsOpen old) (new : Store D disk) : Type 0 where
    pub goes_on : IsOpen new
    pub same_table : goes_on.table ≡ is_open.table
    pub spared : (document : ℕ) → greatest_marked segment document marks ≡ 0 → cells_at goes_on.cells document ≡ cells_at is_open.cells document
    pub kept : (document : ℕ) → greatest_marked segment document marks ≡ 0 → jobs_for document (kept_jobs new) ≡ jobs_for document (kept_jobs old)
    pub raised : (document : ℕ) → 1 ≤ greatest_marked segment document marks → AreBothNewest (state_of old) document (cells_at goes_on.cells document)
    pub dropped : (document : ℕ) → 1 ≤ greatest_marked segment document marks → jobs_for document (kept_jobs new) ≡ []
