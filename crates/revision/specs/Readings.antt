-- What is read of a document's past.
use Rattle.std.specs.Prelude.{ℕ, nat_lt, not, if◌then◌else◌, Option, Some, None, Result, Ok, Err, List}
use Rattle.refusal.specs.declared.Refusal.{Refusal}
use Rattle.refusal.specs.declared.Refusal.TheVariants.{NoDocument, Deleted, Future, TooOld}
use Rattle.delta.specs.Element.{Element}
use Rattle.delta.specs.Operation.{Operation}
use Rattle.revision.specs.Past.{Past, content_at, deltas_above}
use Rattle.revision.specs.State.{DocumentRecord, State, revision_of, is_live, find}

-- what is asked of a document's past at a revision: the document has to be there and not deleted, and the revision held
abbrev pub at_revision : {X : Type 0} → ℕ → Option (ℕ × DocumentRecord) → (Past → X) → Result X Refusal
at_revision revision None ask = Err NoDocument
at_revision revision (Some found) ask =
    if not (is_live found.1) then Err Deleted
    else if nat_lt (revision_of found.1) revision then Err Future
    else if nat_lt revision found.1.past.floor then Err TooOld
    else Ok (ask found.1.past)

-- the units of a document at a revision
abbrev pub document_at : State → List ℕ → ℕ → Result (List Element) Refusal
document_at state name revision = at_revision revision (find name 0 state.documents) (λ past. (content_at past revision).units)

-- the deltas that were taken since a revision
abbrev pub taken_since : State → List ℕ → ℕ → Result (List (List Operation)) Refusal
taken_since state name revision = at_revision revision (find name 0 state.documents) (λ past. deltas_above past revision)

-- the past of a document that holds a revision
abbrev pub past_at : State → List ℕ → ℕ → Result Past Refusal
past_at state name revision = at_revision revision (find name 0 state.documents) (λ past. past)

-- what is read, seen another way
abbrev pub read_as : {X Y : Type 0} → (X → Y) → Result X Refusal → Result Y Refusal
read_as see (Ok x) = Ok (see x)
read_as see (Err refusal) = Err refusal
