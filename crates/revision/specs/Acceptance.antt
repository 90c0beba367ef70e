-- The rule of acceptance: the answer to a command is the first case that holds.
use Rattle.std.specs.Prelude.{ℕ, ◌+◌, ◌^◌, ◌≡◌, ◌≤◌, ◌<◌, ◌==◌, not, nat_lt, nat_le, if◌then◌else◌, true, Option, Some, None, List, [], length}
use Rattle.refusal.specs.declared.Refusal.{Refusal}
use Rattle.refusal.specs.declared.Refusal.TheVariants.{NoDocument, Exists, Gap, OldNumber, TooManySources, Future, TooOld, PastEnd, CutsPair, TooHeavy, TooWide, RevisionsSpent, NothingToUndo, TooManyDocuments, Deleted}
use Rattle.attributes.specs.Map.{empty}
use Rattle.delta.specs.Element.{Element}
use Rattle.delta.specs.Operation.{Operation}
use Rattle.revision.specs.Command.{Action, Create, Edit, Undo, Delete, Command, Step, Edits, Deletes, Revives, Taken, width_of}
use Rattle.revision.specs.Window.{Window, revision_in, last_revision}
use Rattle.revision.specs.Sources.{Sources, window_of}
use Rattle.revision.specs.Parting.{parts_pair}
use Rattle.revision.specs.Late.{late}
use Rattle.revision.specs.Past.{undo_of, deltas_of, deltas_above}
use Rattle.revision.specs.State.{Limits, DocumentRecord, State, revision_of, units_of, sources_of, is_live, find, last_of_all, reaches_past, weight_after, has_place, grows, grown}

pub data Answer : Type 0 where
  -- it is taken, and this is added to the state
  Takes : Taken → Answer
  -- it was taken before, and made this revision
  Repeats : ℕ → Answer
  Refuses : Refusal → Answer

-- A command to be taken on these units and sources: the limits have to be kept.
abbrev pub take_within : Limits → List Element → Sources → Taken → Answer
take_within limits units sources taken =
    if nat_lt limits.weight (weight_after limits units sources taken) then Refuses TooHeavy
    else if nat_lt limits.width (width_of taken) then Refuses TooWide
    else Takes taken

-- one with a delta: the units that it speaks of have to be there too, and no pair may be parted
abbrev pub take_on : Limits → List Element → Sources → Taken → Answer
take_on limits units sources taken =
    if reaches_past taken.delta units then Refuses PastEnd
    else if parts_pair taken.delta units then Refuses CutsPair
    else take_within limits units sources taken

-- where a number made a revision it is a retry, else what comes next decides
abbrev pub by_retry : Option ℕ → Answer → Answer
by_retry None next = next
by_retry (Some revision) next = Repeats revision

-- the number alone decides whether a command is a retry, and whether it is the source's next one
abbrev pub by_number : Window → ℕ → Answer → Answer
by_number window number next =
    by_retry (revision_in number window)
    (if nat_le number window.number then Refuses OldNumber
    else if nat_lt (window.number + 1) number then Refuses Gap
    else next)

-- a document that is deleted takes neither edits nor undos, and isn't deleted again
abbrev pub if_live : DocumentRecord → Answer → Answer
if_live found next = if is_live found then next else Refuses Deleted

-- no revision comes after the last that there is
abbrev pub if_unspent : DocumentRecord → Answer → Answer
if_unspent found next = if revision_of found == last_of_all then Refuses RevisionsSpent else next

-- what is added where a document is created
abbrev pub creation : State → Command → List Operation → Taken
creation state command delta = record {
  document = length state.documents;
  name = Some command.name;
  revision = 1;
  source = command.source;
  number = 1;
  step = Edits;
  delta = delta;
}

abbrev pub create_new : State → Command → List Operation → Answer
create_new state command delta =
    if nat_lt 1 command.number then Refuses Gap
    else if nat_le state.limits.docs (length state.documents) then Refuses TooManyDocuments
    else take_on state.limits [] empty (creation state command delta)

-- what is added where the document of this number is changed by a step with a delta
abbrev pub next_revision : ℕ → DocumentRecord → Command → Step → List Operation → Taken
next_revision number found command step delta = record {
  document = number;
  name = None;
  revision = revision_of found + 1;
  source = command.source;
  number = command.number;
  step = step;
  delta = delta;
}

-- the next revision by a delta on the empty document
abbrev pub create_next : State → ℕ → DocumentRecord → Command → List Operation → Answer
create_next state number found command delta =
    if_unspent found (take_on state.limits [] (sources_of found) (next_revision number found command Revives delta))

-- a creation of a document that is deleted: it is created again, as its next revision, for which its source has to have a place
abbrev pub revive : State → ℕ → DocumentRecord → Command → List Operation → Answer
revive state number found command delta =
    if not (has_place state.limits command.source (sources_of found)) then Refuses TooManySources
    else create_next state number found command delta

-- A creation of a document that is there: one of the source's last numbers sent again; or one document too many of that name, unless that
-- is deleted.
abbrev pub create_existing : State → ℕ → DocumentRecord → Command → List Operation → Answer
create_existing state number found command delta =
    let window = window_of command.source (sources_of found) in
    if is_live found then by_retry (revision_in command.number window) (Refuses Exists)
    else by_number window command.number (revive state number found command delta)

abbrev pub change : State → ℕ → DocumentRecord → Command → List Operation → Answer
change state number found command delta =
    if_unspent found (take_on state.limits (units_of found) (sources_of found) (next_revision number found command Edits delta))

-- an edit: late past what was taken since its base, which has to be a revision that is held
abbrev pub edit : State → ℕ → DocumentRecord → Command → ℕ → List Operation → Answer
edit state number found command base delta =
    if not (has_place state.limits command.source (sources_of found)) then Refuses TooManySources
    else if nat_lt (revision_of found) base then Refuses Future
    else if nat_lt base found.past.floor then Refuses TooOld
    else change state number found command (late delta (deltas_above found.past base))

-- an undo of the source's last change, whose revision has to be held with the one before it
abbrev pub undo : State → ℕ → DocumentRecord → Command → Answer
undo state number found command =
    let window = window_of command.source (sources_of found) in
    if window.number == 0 then Refuses NothingToUndo
    else if nat_le (last_revision window) found.past.floor then Refuses TooOld
    else change state number found command (undo_of found.past.floor found.past.content.units (deltas_of found.past) (last_revision window))

-- the next revision by a deletion, which has to keep the limits
abbrev pub delete_next : State → ℕ → DocumentRecord → Command → Answer
delete_next state number found command =
    if_unspent found (take_within state.limits (units_of found) (sources_of found) (next_revision number found command Deletes []))

-- a deletion, for which its source has to have a place
abbrev pub delete : State → ℕ → DocumentRecord → Command → Answer
delete state number found command =
    if not (has_place state.limits command.source (sources_of found)) then Refuses TooManySources
    else delete_next state number found command

-- the first case that holds
abbrev pub answer_to : State → Command → Action → Option (ℕ × DocumentRecord) → Answer
answer_to state command (Create delta) None = create_new state command delta
answer_to state command (Create delta) (Some found) = create_existing state found.0 found.1 command delta
answer_to state command (Edit base delta) None = Refuses NoDocument
answer_to state command (Edit base delta) (Some found) =
    by_number (window_of command.source (sources_of found.1)) command.number
    (if_live found.1 (edit state found.0 found.1 command base delta))
answer_to state command Undo None = Refuses NoDocument
answer_to state command Undo (Some found) =
    by_number (window_of command.source (sources_of found.1)) command.number (if_live found.1 (undo state found.0 found.1 command))
answer_to state command Delete None = Refuses NoDocument
answer_to state command Delete (Some found) =
    by_number (window_of command.source (sources_of found.1)) command.number (if_live found.1 (delete state found.0 found.1 command))

-- the answer to a command
abbrev pub answer : State → Command → Answer
answer state command = answer_to state command command.action (find command.name 0 state.documents)

-- a command's reply
pub data Reply : Type 0 where
  TakenAt : ℕ → Reply
  AgainAt : ℕ → Reply
  Refused : Refusal → Reply

-- the reply of an answer, and the state after it
abbrev pub reply_and_state : State → Answer → Reply × State
reply_and_state state (Takes taken) = (TakenAt taken.revision, grown state taken)
reply_and_state state (Repeats revision) = (AgainAt revision, state)
reply_and_state state (Refuses refusal) = (Refused refusal, state)

abbrev pub decide : State → Command → Reply × State
decide state command = reply_and_state state (answer state command)

-- what is taken of a command continues the state
abbrev pub TakenGrows : Type 0
TakenGrows = (state : State) (command : Command) (taken : Taken) → 1 ≤ command.number → command.number < 2 ^ 53
    → answer state command ≡ Takes taken → grows state taken ≡ true
