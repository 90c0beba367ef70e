-- What a program that follows one source's commands to one document has to be told of a schedule, and what it shows of a world.
use Rattle.std.specs.Prelude.{◌≡◌, ℕ, Bool, true, false, Option, Some, None, List, [], ◌∷◌, ◌++◌, length, take, map, All}
use Rattle.revision.specs.State.{State}
use Rattle.revision.specs.Acceptance.{Answer, Takes, Repeats, Refuses, Reply, TakenAt, AgainAt, Refused, answer}
use Rattle.world.specs.declared.follower.Place.{Place}
use Rattle.world.specs.declared.follower.Waiting.{Waiting}
use Rattle.world.specs.declared.follower.Happening.{Happening}
use Rattle.world.specs.declared.follower.Happening.TheVariants as happenings
use Rattle.world.specs.Progress.{Ticket}
use Rattle.world.specs.Event.{Outcome, Done, Failed, Stopped, Event, Submit, Take, Device, Publish, Settle, Ack, Compose, Crash, Open, Resend}
use Rattle.world.specs.World.{Entry, takens, World, begun, last_sent}
use Rattle.world.specs.Step.{may_pick, whole, step, run}
use Rattle.world.specs.Law.{revision_named}
use Rattle.world.specs.Followed.{Followed, begun_followed, followed_step}

-- the commands of an event are this source's to the document of this name
abbrev pub IsOwn : List ℕ → List ℕ → Event → Type 0
IsOwn name source (Submit command) = (command.name ≡ name) × (command.source ≡ source)
IsOwn name source (Resend command) = (command.name ≡ name) × (command.source ≡ source)
IsOwn name source (Take count) = Unit {0}
IsOwn name source (Device outcome) = Unit {0}
IsOwn name source Publish = Unit {0}
IsOwn name source Settle = Unit {0}
IsOwn name source (Ack place) = Unit {0}
IsOwn name source (Compose document revision) = Unit {0}
IsOwn name source (Crash kept) = Unit {0}
IsOwn name source (Open kept floors) = Unit {0}

-- the revision as which a command is taken anew
abbrev pub taken_as : Answer → Option ℕ
taken_as (Takes taken) = Some taken.revision
taken_as (Repeats revision) = None
taken_as (Refuses refusal) = None

abbrev pub is_done : Outcome → Bool
is_done Done = true
is_done Failed = false
is_done Stopped = false

-- what is told of an event: what the rule of acceptance says, and whether floors may be picked; of composing nothing
abbrev pub told : World → Event → List Happening
told world (Submit command) = happenings.Submit command.number (taken_as (answer world.board.state command)) ∷ []
told world (Take count) = happenings.Take count ∷ []
told world (Device outcome) = happenings.Device (is_done outcome) ∷ []
told world Publish = happenings.Publish ∷ []
told world Settle = happenings.Settle ∷ []
told world (Ack place) = happenings.Ack place ∷ []
told world (Compose document revision) = []
told world (Crash kept) = happenings.Crash kept ∷ []
told world (Open kept floors) =
    happenings.Open kept (may_pick world.board.start.limits.keep world.composed 0 (whole world.board.start (takens (take kept world.board.order))).documents floors) ∷ []
told world (Resend command) = happenings.Resend command.number (taken_as (answer world.board.state command)) ∷ []

-- what is told of a list of events, in order
abbrev pub all_told : World → List Event → List Happening
all_told world [] = []
all_told world (first ∷ others) = told world first ++ all_told (step world first) others

abbrev pub followed_steps : Followed → List Happening → Followed
followed_steps followed [] = followed
followed_steps followed (first ∷ others) = followed_steps (followed_step followed first) others

-- what is followed of an entry, of a ticket and of a world
abbrev pub place_of : Entry → Place
place_of entry = record { number = entry.taken.number; revision = entry.taken.revision }

abbrev pub is_again : Reply → Bool
is_again (TakenAt revision) = false
is_again (AgainAt revision) = true
is_again (Refused refusal) = false

abbrev pub waiting_of : Ticket → Waiting
waiting_of ticket =
    record { number = ticket.command.number; again = is_again ticket.reply; revision = revision_named ticket.reply; length = ticket.length }

abbrev pub followed_of : List ℕ → List ℕ → World → Followed
followed_of name source world = record {
  order = map place_of world.board.order;
  tickets = map waiting_of world.tickets;
  acks = map waiting_of world.acks;
  sent = last_sent name source world.sent;
  taken = world.board.taken;
  settled = world.board.settled;
  published = length world.published;
  without = world.without;
  with_batch = world.with_batch;
  failed = world.failed;
  crashed = world.crashed;
}

-- A schedule of one source's commands to one document, of a store that begins without documents, comes to what is followed of it.
abbrev pub Follows : Type 0
Follows = (start : State) (name source : List ℕ) (events : List Event) → start.documents ≡ [] → All (IsOwn name source) events
    → followed_of name source (run (begun start) events) ≡ followed_steps begun_followed (all_told (begun start) events)
