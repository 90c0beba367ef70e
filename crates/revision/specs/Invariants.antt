-- What each state is that grew from the empty one. That it is so is promised by `laws::states_stay`.
use Rattle.std.specs.Prelude.{◌≡◌, ℕ, ◌≤◌, ◌<◌, ◌^◌, true, List, [], Option, Some, None, length, slice_get}
use Rattle.revision.specs.State.{weight_of, Limits, DocumentRecord, State, last_of_all, is_mark_at, are_sources, grows, grown, adopts, adopted, all_continue, record_after_all}
use Rattle.revision.specs.Command.{Taken}
use Rattle.revision.specs.Sources.{Sources, count_of}
use Rattle.revision.specs.Past.{StandInTurn, Past, Content, is_content, newest, deltas_of, content_at, sources_at}

-- the ranges of the limits
pub record IsLimits (limits : Limits) : Type 0 where
  pub some_document : 1 ≤ limits.docs
  pub docs : limits.docs ≤ 65536
  pub some_source : 1 ≤ limits.sources
  pub sources : limits.sources ≤ 4096
  pub weight : limits.weight < 2 ^ 32
  pub width : limits.width < 2 ^ 32
  pub some_revision : 1 ≤ limits.keep
  pub keep : limits.keep ≤ 65536
  pub retry : limits.retry ≤ 8

-- what a past keeps at a revision that it holds
pub record KeepsAt (limits : Limits) (past : Past) (revision : ℕ) : Type 0 where
  pub weight : weight_of limits (content_at past revision).units (sources_at past revision) ≤ limits.weight
  pub count : count_of (sources_at past revision) ≤ limits.sources
  pub sources : are_sources revision (sources_at past revision).entries ≡ true
  pub content : is_content (content_at past revision) ≡ true
  pub mark : is_mark_at (content_at past revision).live revision ≡ true

-- what a past keeps: its deltas stand in turn, it holds no more than it should, and the limits are kept at each revision
pub record IsPast (limits : Limits) (past : Past) : Type 0 where
  pub stand : StandInTurn past.content.units (deltas_of past)
  pub count : length past.changes ≤ limits.keep
  pub first : 1 ≤ newest past
  pub last : newest past ≤ last_of_all
  pub each : (revision : ℕ) → past.floor ≤ revision → revision ≤ newest past → KeepsAt limits past revision

-- what a document keeps that may be there
abbrev pub IsRecord : Limits → Option DocumentRecord → Type 0
IsRecord limits None = Unit {0}
IsRecord limits (Some found) = IsPast limits found.past

-- no two documents have one name
abbrev pub NamesDiffer : List DocumentRecord → Type 0
NamesDiffer documents = (i j : ℕ) (a b : DocumentRecord) → slice_get documents i ≡ Some a → slice_get documents j ≡ Some b
    → a.name ≡ b.name → i ≡ j

pub record IsState (state : State) : Type 0 where
  pub limits : IsLimits state.limits
  pub count : length state.documents ≤ state.limits.docs
  pub names : NamesDiffer state.documents
  pub each : (number : ℕ) (found : DocumentRecord) → slice_get state.documents number ≡ Some found → IsPast state.limits found.past

-- the empty state is one; commands that continue it and documents that it adopts leave it one
abbrev pub EmptyIsState : Type 0
EmptyIsState = (limits : Limits) → IsLimits limits → IsState (record { limits = limits; documents = [] })

abbrev pub GrowingKeeps : Type 0
GrowingKeeps = (state : State) (taken : Taken) → IsState state → grows state taken ≡ true → IsState (grown state taken)

abbrev pub AdoptingKeeps : Type 0
AdoptingKeeps = (state : State) (name : List ℕ) (content : Content) (revision : ℕ) (sources : Sources) → IsState state
    → adopts state name content revision sources ≡ true → IsState (adopted state name content revision sources)

-- commands that continue a document leave it what it keeps
abbrev pub ContinuingKeeps : Type 0
ContinuingKeeps = (limits : Limits) (found : Option DocumentRecord) (commands : List Taken) → IsLimits limits → IsRecord limits found
    → all_continue limits found commands ≡ true → IsRecord limits (record_after_all limits.keep found commands)
