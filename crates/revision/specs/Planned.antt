-- What the program answers, against the answer that is due.
use Rattle.std.specs.Prelude.{◌≡◌, ◌⊎◌, ℕ, ◌-◌, ◌^◌, min, Bool, true, false, Option, Some, None, Result, Ok, Err, List}
use Rattle.refusal.specs.declared.Refusal.{Refusal}
use Rattle.refusal.specs.declared.Refusal.TheVariants.{PastEnd, CutsPair, TooHeavy, TooWide, NoMemory}
use Rattle.delta.specs.Element.{Element}
use Rattle.delta.specs.Operation.{Operation}
use Rattle.delta.specs.Gaps.{counted, apply}
use Rattle.revision.specs.declared.rule.planning.Plan as program
use Rattle.revision.specs.declared.rule.planning.Plan.TheVariants as plans
use Rattle.revision.specs.declared.rule.planning.Reply as replied
use Rattle.revision.specs.declared.rule.planning.Reply.TheVariants as replies
use Rattle.revision.specs.Command.{Action, Create, Edit, Undo, Delete, Command, Deletes, Taken, width_of}
use Rattle.revision.specs.Window.{Window}
use Rattle.revision.specs.Past.{units_after}
use Rattle.revision.specs.State.{State, grows}
use Rattle.revision.specs.Acceptance.{Answer, Takes, Repeats, Refuses, by_number, Reply, TakenAt, AgainAt, Refused, decide}

-- the program's answer is the one that is due, or memory ran out
abbrev pub Gives : Result program.Plan Refusal → Answer → Type 0
Gives (Ok (plans.Taken taken)) due = due ≡ Takes taken
Gives (Ok (plans.Again revision)) due = due ≡ Repeats revision
Gives (Err refusal) due = (refusal ≡ NoMemory) ⊎ (due ≡ Refuses refusal)

-- the command is taken
abbrev pub takes_command : Answer → Bool
takes_command (Takes taken) = true
takes_command (Repeats revision) = false
takes_command (Refuses refusal) = false

-- the answer rests on the delta that is to be taken, and not on names and numbers alone
abbrev pub rests_on_delta : Answer → Bool
rests_on_delta (Takes taken) = true
rests_on_delta (Repeats revision) = false
rests_on_delta (Refuses PastEnd) = true
rests_on_delta (Refuses CutsPair) = true
rests_on_delta (Refuses TooHeavy) = true
rests_on_delta (Refuses TooWide) = true
rests_on_delta (Refuses other) = false

-- `NoMemory` may come in place of this answer: of a creation and of a deletion only where it is taken, since a creation's delta is
-- looked at as it stands, and a deletion has none; of an edit or an undo only where the answer rests on the delta to be taken, which has to be made first.
abbrev pub may_want_memory : Action → Answer → Bool
may_want_memory (Create delta) due = takes_command due
may_want_memory (Edit base delta) due = rests_on_delta due
may_want_memory Undo due = rests_on_delta due
may_want_memory Delete due = takes_command due

-- whether a number is a retry, the source's next one, or refused
abbrev pub IsTurn : Result (Option ℕ) Refusal → Window → ℕ → Type 0
IsTurn (Ok (Some revision)) window number = (next : Answer) → by_number window number next ≡ Repeats revision
IsTurn (Ok None) window number = (next : Answer) → by_number window number next ≡ next
IsTurn (Err refusal) window number = (next : Answer) → by_number window number next ≡ Refuses refusal

-- what is to be taken: by this source, with this delta on these units, and with an entry of so many bytes
pub record IsAsked (taken : Taken) (by : List ℕ) (units : List Element) (change : List Operation) (bytes : ℕ) : Type 0 where
  pub source : taken.source ≡ by
  pub delta : taken.delta ≡ change
  pub after : units_after units taken.step taken.delta ≡ apply units (counted change)
  pub width : bytes ≡ min (width_of taken) (2 ^ 64 - 1)

-- what is to be taken is a deletion, by this source
pub record IsDeletion (taken : Taken) (by : List ℕ) : Type 0 where
  pub source : taken.source ≡ by
  pub name : taken.name ≡ None
  pub step : taken.step ≡ Deletes

-- the program's reply
abbrev pub reply_of : Result replied.Reply Refusal → Reply
reply_of (Ok (replies.Taken revision)) = TakenAt revision
reply_of (Ok (replies.Again revision)) = AgainAt revision
reply_of (Err refusal) = Refused refusal

-- the reply and the state after it are those that are due, or memory ran out and the state is unchanged
abbrev pub IsDecided : State → Command → Result replied.Reply Refusal → State → Type 0
IsDecided old command result new = (decide old command ≡ (reply_of result, new)) ⊎ ((result ≡ Err NoMemory) × (new ≡ old))

-- what is planned continues the state
abbrev pub PlanGrows : State → program.Plan → Type 0
PlanGrows state (plans.Taken taken) = grows state taken ≡ true
PlanGrows state (plans.Again revision) = Unit {0}
