-- When two states hold the same. How far back they hold it, their floors, may differ: a state that is recovered may hold fewer
-- revisions than the one that was lost, or more. What is said of all states at the end is promised by functions of
-- src/laws.rt.
use Rattle.std.specs.Prelude.{◌≡◌, ◌⊎◌, ◌≤◌, ◌<◌, ℕ, max, List, Option, Some, None, slice_get}
use Rattle.refusal.specs.declared.Refusal.TheVariants.{TooOld}
use Rattle.revision.specs.Command.{Taken, Action, Create, Edit, Undo, Delete, Command}
use Rattle.revision.specs.Window.{last_revision}
use Rattle.revision.specs.Sources.{window_of}
use Rattle.revision.specs.Past.{from_floor}
use Rattle.revision.specs.State.{Limits, DocumentRecord, State, revision_of, content_of, sources_of, find, all_grow, fold, all_continue, record_after_all}
use Rattle.revision.specs.Acceptance.{answer, Refuses}

-- Two records agree: their names, revisions, contents and sources are equal, and what they hold from any floor on that neither is
-- above: the content and the sources there, and the changes after it.
pub record DocumentsAgree (a b : DocumentRecord) : Type 0 where
  pub name : a.name ≡ b.name
  pub revision : revision_of a ≡ revision_of b
  pub content : content_of a ≡ content_of b
  pub sources : sources_of a ≡ sources_of b
  pub past : (floor : ℕ) → a.past.floor ≤ floor → b.past.floor ≤ floor → floor ≤ revision_of a → from_floor a.past floor ≡ from_floor b.past floor

-- at one place of both lists: a document in each, which agree, or in neither
abbrev pub PlacesAgree : Option DocumentRecord → Option DocumentRecord → Type 0
PlacesAgree None None = Unit {0}
PlacesAgree None (Some b) = ⊥
PlacesAgree (Some a) None = ⊥
PlacesAgree (Some a) (Some b) = DocumentsAgree a b

-- two states agree: their limits are equal, and their documents agree place by place
pub record Agree (s t : State) : Type 0 where
  pub limits : s.limits ≡ t.limits
  pub documents : (number : ℕ) → PlacesAgree (slice_get s.documents number) (slice_get t.documents number)

-- the floor of a document that may be there
abbrev pub floor_of : Option DocumentRecord → ℕ
floor_of None = 0
floor_of (Some document) = document.past.floor

abbrev pub floor_at : State → ℕ → ℕ
floor_at state number = floor_of (slice_get state.documents number)

-- each state agrees with itself, and with each that agrees with it
abbrev pub AgreeSame : Type 0
AgreeSame = (s : State) → Agree s s

abbrev pub AgreeTurned : Type 0
AgreeTurned = (s t : State) → Agree s t → Agree t s

-- two states that agree with a third agree, where no floor of the third is above both of theirs
abbrev pub AgreeThrough : Type 0
AgreeThrough = (s t u : State) → ((number : ℕ) → floor_at t number ≤ max (floor_at s number) (floor_at u number))
    → Agree s t → Agree t u → Agree s u

-- States that agree are continued by the same commands, and agree after them.
abbrev pub AgreeingGrow : Type 0
AgreeingGrow = (s t : State) (commands : List Taken) → Agree s t → (all_grow s commands ≡ all_grow t commands) × Agree (fold s commands) (fold t commands)

-- Documents that agree are continued by the same commands, and agree after them.
abbrev pub AgreeingContinue : Type 0
AgreeingContinue = (limits : Limits) (a b : Option DocumentRecord) (commands : List Taken) → PlacesAgree a b
    → (all_continue limits a commands ≡ all_continue limits b commands)
    × PlacesAgree (record_after_all limits.keep a commands) (record_after_all limits.keep b commands)

-- States that agree answer a command alike, unless one of them no longer holds the revision that it stands on.
abbrev pub AgreeingAnswer : Type 0
AgreeingAnswer = (s t : State) (command : Command) → Agree s t
    → (answer s command ≡ answer t command) ⊎ (answer s command ≡ Refuses TooOld) ⊎ (answer t command ≡ Refuses TooOld)

-- An action stands on no revision that either of two records has let go of: a creation and a deletion stand on none, an edit on its
-- base, an undo on the revision before the source's last one.
abbrev pub StandsOnHeld : List ℕ → Action → DocumentRecord → DocumentRecord → Type 0
StandsOnHeld source (Create delta) a b = Unit {0}
StandsOnHeld source (Edit base delta) a b = (a.past.floor ≤ base) × (b.past.floor ≤ base)
StandsOnHeld source Delete a b = Unit {0}
StandsOnHeld source Undo a b =
    (a.past.floor < last_revision (window_of source (sources_of a))) × (b.past.floor < last_revision (window_of source (sources_of b)))

-- They answer all commands alike that stand on what both hold.
abbrev pub AgreeingAnswerHeld : Type 0
AgreeingAnswerHeld = (s t : State) (command : Command) → Agree s t
    → ((number : ℕ) (a b : DocumentRecord) → find command.name 0 s.documents ≡ Some (number, a) → find command.name 0 t.documents ≡ Some (number, b)
    → StandsOnHeld command.source command.action a b)
    → answer s command ≡ answer t command
