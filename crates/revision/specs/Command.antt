-- What a source asks for, and what is taken of it.
use Rattle.std.specs.Prelude.{ℕ, ◌≡◌, ◌<◌, ◌≤◌, ◌^◌, ◌+◌, ◌==◌, ◌&&◌, nat_le, nat_lt, Bool, true, false, Option, Some, None, List, [], length}
use Rattle.delta.specs.Operation.{Operation, base_of, out_of}
use Rattle.revision.specs.Name.{is_document_name, is_source_name}
use Rattle.revision.specs.Spellable.{IsSpellable}
use Rattle.revision.specs.Width.{delta_width}
pub use Rattle.revision.specs.declared.step.Step.{Step}
pub use Rattle.revision.specs.declared.step.Step.TheVariants.{Edits, Deletes, Revives}

-- what is asked for of a document
pub data Action : Type 0 where
  -- make it, by a delta on the empty document
  Create : List Operation → Action
  -- change it by a delta that was made on this revision
  Edit : ℕ → List Operation → Action
  -- take the source's last change back
  Undo : Action
  -- delete it
  Delete : Action

-- the delta of what is to be done stands on at most 2^44 code units, and its output has at most 2^44
abbrev pub IsShortDelta : List Operation → Type 0
IsShortDelta delta = (base_of delta ≤ 2 ^ 44) × (out_of delta ≤ 2 ^ 44)

abbrev pub IsShort : Action → Type 0
IsShort (Create delta) = IsShortDelta delta
IsShort (Edit base delta) = IsShortDelta delta
IsShort Undo = Unit {0}
IsShort Delete = Unit {0}

-- a source's command to the document of this name, with the source's number for it
pub record Command : Type 0 where
  pub name : List ℕ
  pub source : List ℕ
  pub number : ℕ
  pub action : Action

-- A command that was taken: the document's number in order of creation, its name where the command makes it, the
-- revision that comes of it, the source with its number, what it does to the document, and the delta: from the revision before, and
-- on the empty document where a deleted one is created again. A deletion has the empty delta.
pub record Taken : Type 0 where
  pub document : ℕ
  pub name : Option (List ℕ)
  pub revision : ℕ
  pub source : List ℕ
  pub number : ℕ
  pub step : Step
  pub delta : List Operation

-- a document that is there is edited or deleted as revision 2 or above, and a deleted one is created again as revision 3 or above
abbrev pub first_of : Step → ℕ
first_of Edits = 2
first_of Deletes = 2
first_of Revives = 3

-- it edits the document
abbrev pub edits : Step → Bool
edits Edits = true
edits Deletes = false
edits Revives = false

-- it deletes it
abbrev pub deletes : Step → Bool
deletes Edits = false
deletes Deletes = true
deletes Revives = false

-- A creation is of revision 1, and has number 1; no other command has a name. Revisions and numbers are below 2^53.
abbrev pub is_kind : Option (List ℕ) → Step → ℕ → ℕ → Bool
is_kind None step revision number = nat_le (first_of step) revision && nat_lt revision (2 ^ 53) && nat_lt number (2 ^ 53)
is_kind (Some name) step revision number = edits step && is_document_name name && (revision == 1) && (number == 1)

-- a deletion has no delta of its own
abbrev pub IsDeltaOf : Step → List Operation → Type 0
IsDeltaOf Edits delta = IsSpellable delta
IsDeltaOf Deletes delta = delta ≡ []
IsDeltaOf Revives delta = IsSpellable delta

-- what every command that was taken is
pub record IsTaken (taken : Taken) : Type 0 where
  pub document : taken.document < 2 ^ 32
  pub source : is_source_name taken.source ≡ true
  pub kind : is_kind taken.name taken.step taken.revision taken.number ≡ true
  pub delta : IsDeltaOf taken.step taken.delta

-- how many bytes a command takes in the journal
abbrev pub name_width : Option (List ℕ) → ℕ
name_width None = 0
name_width (Some name) = 2 + length name

abbrev pub step_width : Step → List Operation → ℕ
step_width Edits delta = delta_width delta
step_width Deletes delta = 0
step_width Revives delta = delta_width delta

abbrev pub width_of : Taken → ℕ
width_of taken = 23 + length taken.source + name_width taken.name + step_width taken.step taken.delta
