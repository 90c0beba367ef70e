-- What the program that steps a world keeps of one, and which events its events are.
use Rattle.std.specs.Prelude.{◌≡◌, ◌≤◌, ◌+◌, ◌-◌, ◌&&◌, nat_le, max, ℕ, Bool, true, List, [], ◌∷◌, length, map, take}
use Rattle.revision.specs.Command.{Taken, Command}
use Rattle.revision.specs.Acceptance.{Answer, Takes, Repeats, Refuses}
use Rattle.revision.specs.Floors.{raised_each}
use Rattle.revision.specs.State.{Limits, DocumentRecord, State, revision_of, all_grow, fold}
use Rattle.revision.specs.Agree.{Agree}
use Rattle.world.specs.declared.stepping.World.TheInside.{Inside}
use Rattle.world.specs.declared.stepping.Outcome as outcome
use Rattle.world.specs.declared.stepping.Outcome.TheVariants as outcomes
use Rattle.world.specs.declared.stepping.Event as program
use Rattle.world.specs.declared.stepping.Event.TheVariants as events
use Rattle.world.specs.Event.{Outcome, Done, Failed, Stopped, Event, Submit, Take, Device, Publish, Settle, Ack, Compose, Crash, Open, Resend}
use Rattle.world.specs.Progress.{Progress}
use Rattle.world.specs.World.{Entry, entry_of, takens, World, last_composed}

-- a store without documents
abbrev pub empty_store : Limits → State
empty_store limits = record { limits = limits; documents = [] }

-- what is shown is kept as the length of the order's beginning
abbrev pub world_of : Inside → World
world_of w = record {
  board = w.board;
  published = takens (take w.published w.board.order);
  without = w.without;
  with_batch = w.with_batch;
  tickets = w.tickets.items;
  acks = w.acks.items;
  sent = w.sent.items;
  composed = w.composed.items;
  failed = w.failed;
  crashed = w.crashed;
}

-- what the order keeps of a command that was answered so
abbrev pub taken_of : Command → Answer → List Entry
taken_of command (Takes taken) = entry_of command taken ∷ []
taken_of command (Repeats revision) = []
taken_of command (Refuses refusal) = []

-- It began with a store without documents; all lengths are within what is taken off; each command of the order continues what
-- those before it make, with which the state agrees; and the order is kept as a whole, where the program lets go what is settled.
pub record AreStepped (limits : Limits) (progress : Progress Entry) (order : List Entry) (shown without with_batch : ℕ) : Type 0 where
  pub start : progress.start ≡ empty_store limits
  pub shown_taken : shown ≤ progress.taken
  pub without_taken : without ≤ progress.taken
  pub with_taken : with_batch ≤ progress.taken
  pub taken_long : progress.taken ≤ length progress.order
  pub grow : all_grow (empty_store limits) (takens progress.order) ≡ true
  pub agree : Agree progress.state (fold (empty_store limits) (takens progress.order))
  pub kept : order ≡ progress.order

abbrev pub IsStepped : Inside → Type 0
IsStepped w = AreStepped w.limits w.board w.order.items w.published w.without w.with_batch

abbrev pub outcome_of : outcome.Outcome → Outcome
outcome_of outcomes.Done = Done
outcome_of outcomes.Failed = Failed
outcome_of outcomes.Stopped = Stopped

-- the floors of documents
abbrev pub floors_of : List DocumentRecord → List ℕ
floors_of documents = map (λ (d : DocumentRecord). d.past.floor) documents

-- What a store holds that is opened with so many commands, each document from a milestone at the revision that stands at its number, or
-- from none (0): its floor is the milestone's revision, or the one that it has without a milestone where that is higher.
abbrev pub recovered : State → List Taken → List ℕ → State
recovered start commands milestones = record (fold start commands) { documents = raised_each milestones (fold start commands).documents }

abbrev pub floors_left : World → ℕ → List ℕ → List ℕ
floors_left world kept milestones = floors_of (recovered world.board.start (takens (take kept world.board.order)) milestones).documents

-- no floor is above both the one that its document has without a milestone and what was composed of it; counted from this number on
abbrev pub are_reached : List (ℕ × ℕ) → ℕ → List DocumentRecord → List DocumentRecord → Bool
are_reached composed number [] held = true
are_reached composed number (first ∷ others) [] = true
are_reached composed number (first ∷ others) (one ∷ more) =
    nat_le one.past.floor (max first.past.floor (last_composed number composed)) && are_reached composed (number + 1) others more

-- the event of a world that an event of the program is
abbrev pub event_of : World → program.Event → Event
event_of world (events.Submit command) = Submit command.now
event_of world (events.Take count) = Take count
event_of world (events.Device outcome) = Device (outcome_of outcome)
event_of world events.Publish = Publish
event_of world events.Settle = Settle
event_of world (events.Ack place) = Ack place
event_of world (events.Compose document revision) = Compose document revision
event_of world (events.Crash kept) = Crash kept
event_of world (events.Open kept milestones) = Open kept (floors_left world kept milestones.now)
event_of world (events.Resend command) = Resend command.now
