-- Edits that were moved on before they are answered: made on a revision of a document, they are past the deltas of the first revisions after
-- it already.
use Rattle.std.specs.Prelude.{◌≡◌, ℕ, ◌+◌, ◌≤◌, Some, List, length, take, slice_get}
use Rattle.delta.specs.Operation.{Operation}
use Rattle.revision.specs.Command.{Taken}
use Rattle.revision.specs.Late.{late}
use Rattle.revision.specs.Past.{Past, newest, deltas_above}
use Rattle.revision.specs.State.{DocumentRecord, State, fold}

-- An edit of the document of this number, with the deltas of the revisions after its base.
pub record LateEdit : Type 0 where
  pub document : ℕ
  pub base : ℕ
  pub edit : List Operation
  pub since : List (List Operation)

-- An edit of the document of this number, and what it is past the deltas of so many revisions after its base.
pub record MovedEdit : Type 0 where
  pub document : ℕ
  pub base : ℕ
  pub count : ℕ
  pub edit : List Operation
  pub delta : List Operation

abbrev pub moved_of : LateEdit → MovedEdit
moved_of l = record {
  document = l.document;
  base = l.base;
  count = length l.since;
  edit = l.edit;
  delta = late l.edit l.since;
}

-- a state's document holds the base, and these are the deltas of all revisions after it
pub record IsLateIn (state : State) (l : LateEdit) : Type 0 where
  pub found : DocumentRecord
  pub there : slice_get state.documents l.document ≡ Some found
  pub held : found.past.floor ≤ l.base
  pub made : l.base ≤ newest found.past
  pub since : l.since ≡ deltas_above found.past l.base

-- It is so of a past: where that holds the base, it has those revisions, and the edit is past their deltas.
abbrev pub IsMovedPast : Past → MovedEdit → Type 0
IsMovedPast past m = past.floor ≤ m.base
    → (m.base + m.count ≤ newest past) × (m.delta ≡ late m.edit (take m.count (deltas_above past m.base)))

-- and of a state: of its document's past
pub record IsMovedIn (state : State) (m : MovedEdit) : Type 0 where
  pub found : DocumentRecord
  pub there : slice_get state.documents m.document ≡ Some found
  pub past : IsMovedPast found.past m

-- What is late in a state is moved there, and what is moved in a state is so in all that come of it by further commands.
abbrev pub LateIsMoved : Type 0
LateIsMoved = (state : State) (l : LateEdit) → IsLateIn state l → IsMovedIn state (moved_of l)

abbrev pub MovedStays : Type 0
MovedStays = (state : State) (m : MovedEdit) (more : List Taken) → IsMovedIn state m → IsMovedIn (fold state more) m
