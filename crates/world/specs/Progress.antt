-- What stands behind the lock: the one order of the commands that were taken, and how far it is written.
use Rattle.std.specs.Prelude.{ℕ, ◌+◌, ◌==◌, ◌&&◌, nat_lt, nat_le, Bool, Option, Some, None, List, [], ◌∷◌, ◌++◌, length, take, drop}
use Rattle.revision.specs.Command.{Taken, Command}
use Rattle.revision.specs.State.{State, grown}
use Rattle.revision.specs.Acceptance.{Answer, Takes, Repeats, Refuses, Reply, TakenAt, AgainAt, answer}

-- The state that the order begins with; the order of what was taken since; the state with all of it; and of the order how many
-- commands were taken off to be written, and how many of these are settled. `E` is what is kept of a command.
pub record Progress (E : Type 0) : Type 0 where
  pub start : State
  pub order : List E
  pub state : State
  pub taken : ℕ
  pub settled : ℕ

-- a command with its reply, and the length of the order that has to be settled before the reply may be given
pub record Ticket : Type 0 where
  pub command : Command
  pub reply : Reply
  pub length : ℕ

-- Submit: a command that is taken is put behind the order, and any other leaves all as it stands.
abbrev pub submitted_by : {E : Type 0} → (Taken → E) → Progress E → Answer → Progress E
submitted_by entry progress (Takes taken) = record progress { order = progress.order ++ entry taken ∷ []; state = grown progress.state taken }
submitted_by entry progress (Repeats revision) = progress
submitted_by entry progress (Refuses refusal) = progress

abbrev pub submitted : {E : Type 0} → (Taken → E) → Progress E → Command → Progress E
submitted entry progress command = submitted_by entry progress (answer progress.state command)

-- its ticket: a retry waits for all that is in the order, since its edit may be anywhere in it; a refusal has none
abbrev pub ticket_by : {E : Type 0} → Progress E → Command → Answer → Option Ticket
ticket_by progress command (Takes taken) = Some (record { command = command; reply = TakenAt taken.revision; length = length progress.order + 1 })
ticket_by progress command (Repeats revision) = Some (record { command = command; reply = AgainAt revision; length = length progress.order })
ticket_by progress command (Refuses refusal) = None

abbrev pub ticket_of : {E : Type 0} → Progress E → Command → Option Ticket
ticket_of progress command = ticket_by progress command (answer progress.state command)

-- Take: so many of the next commands, at least one, are marked as taken off.
abbrev pub can_take : {E : Type 0} → Progress E → ℕ → Bool
can_take progress count = nat_lt 0 count && nat_le (progress.taken + count) (length progress.order)

abbrev pub next_run : {E : Type 0} → Progress E → ℕ → List E
next_run progress count = take count (drop progress.taken progress.order)

abbrev pub taken_more : {E : Type 0} → Progress E → ℕ → Progress E
taken_more progress count = record progress { taken = progress.taken + count }

-- Settle: so many of what is taken off, where what was told to be published ends with them.
abbrev pub can_settle : {E : Type 0} → Progress E → ℕ → ℕ → Bool
can_settle progress count told = nat_lt 0 count && nat_le (progress.settled + count) progress.taken && (told == progress.settled + count)

abbrev pub settled_more : {E : Type 0} → Progress E → ℕ → Progress E
settled_more progress count = record progress { settled = progress.settled + count }

-- Publish: what is taken off beyond what is shown.
abbrev pub taken_beyond : {E : Type 0} → Progress E → ℕ → List E
taken_beyond progress shown = drop shown (take progress.taken progress.order)

-- Ack: the ticket's length is settled.
abbrev pub can_ack : {E : Type 0} → Progress E → Ticket → Bool
can_ack progress ticket = nat_le ticket.length progress.settled

-- where nothing is taken yet
abbrev pub begun_progress : {E : Type 0} → State → Progress E
begun_progress start = record { start = start; order = []; state = start; taken = 0; settled = 0 }

-- Open: the order ends after so many commands, all of them taken off and settled, and the state is the one that was recovered.
abbrev pub reopened : {E : Type 0} → Progress E → State → ℕ → Progress E
reopened progress state kept = record progress { order = take kept progress.order; state = state; taken = kept; settled = kept }
