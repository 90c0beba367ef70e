-- A thread's run as a schedule: which events of a world its calls and answers are.
use Rattle.std.specs.Prelude.{◌≡◌, ◌≤◌, ℕ, zero, suc, ◌+◌, true, false, Some, List, [], ◌∷◌, ◌++◌, length, take, slice_get, option_to_list}
use Rattle.disk.specs.declared.device.Disk.{Ghosts}
use Rattle.revision.specs.Command.{Command}
use Rattle.world.specs.Progress.{Progress, Ticket, begun_progress}
use Rattle.world.specs.Event.{Event, Done, Submit as Sends, Take, Device, Publish, Settle, Ack as Acknowledges, Compose}
use Rattle.revision.specs.State.{State}
use Rattle.world.specs.World.{Entry, takens, World, begun}
use Rattle.world.specs.Step.{is_numbered, run}
use Rattle.lives.specs.declared.calls.Call.{Call}
use Rattle.lives.specs.declared.calls.Call.TheVariants.{Submit, Turn, Ack, Milestone}
use Rattle.lives.specs.declared.calls.Answer.{Answer}
use Rattle.lives.specs.declared.calls.Answer.TheVariants.{Turned, Acked, Put}
use Rattle.lives.specs.Driving.{Between, Answered}

-- A world in which nothing is under way: all that is taken off is settled and shown, and a crash leaves just that.
abbrev pub at_rest : Progress Entry → List Ticket → List Ticket → List Command → List (ℕ × ℕ) → World
at_rest board tickets acks sent composed = record {
  board = board;
  published = takens (take board.settled board.order);
  without = board.settled;
  with_batch = board.settled;
  tickets = tickets;
  acks = acks;
  sent = sent;
  composed = composed;
  failed = false;
  crashed = false;
}

-- the commands that a call sends
abbrev pub command_of : Call → List Command
command_of (Submit command) = command ∷ []
command_of call = []

abbrev pub commands_in : List Call → List Command
commands_in [] = []
commands_in (call ∷ calls) = command_of call ++ commands_in calls

-- the number of a command that is sent is 1 to 2^53 - 1, as every `Command` of the program has it
abbrev pub IsNumbered : Call → Type 0
IsNumbered (Submit command) = is_numbered command ≡ true
IsNumbered call = Unit {0}

abbrev pub AreNumbered : List Call → Type 0
AreNumbered [] = Unit {0}
AreNumbered (call ∷ calls) = IsNumbered call × AreNumbered calls

-- a batch of so many commands is taken off, written, shown and settled
abbrev pub written_events : ℕ → List Event
written_events zero = []
written_events (suc count) = Take (suc count) ∷ Device Done ∷ Publish ∷ Settle ∷ []

module _ {D L : Type 0} where
  -- The events that a call is, by its answer. A run's tickets stand behind those that earlier runs were given.
  abbrev pub events_of : ℕ → Call → Answer D L → List Event
  events_of earlier (Submit command) reply = Sends command ∷ []
  events_of earlier Turn (Turned count) = written_events count
  events_of earlier (Ack at) reply = Acknowledges (earlier + at) ∷ []
  events_of earlier (Milestone document revision) Put = Compose document revision ∷ []
  events_of earlier call reply = []

  -- those of a run, each call with its answer
  abbrev pub schedule : ℕ → List Call → List (Answer D L) → List Event
  schedule earlier [] answers = []
  schedule earlier (call ∷ calls) [] = []
  schedule earlier (call ∷ calls) (reply ∷ answers) = events_of earlier call reply ++ schedule earlier calls answers

  -- the tickets that were acknowledged: of each acknowledgement that gave a token, the one that it named
  abbrev pub acked_by : List Ticket → Call → Answer D L → List Ticket
  acked_by tickets (Ack at) (Acked (Some told)) = option_to_list (slice_get tickets at)
  acked_by tickets call reply = []

  abbrev pub acked : List Ticket → List Call → List (Answer D L) → List Ticket
  acked tickets [] answers = []
  acked tickets (call ∷ calls) [] = []
  acked tickets (call ∷ calls) (reply ∷ answers) = acked_by tickets call reply ++ acked tickets calls answers

-- Nothing that was taken off is left to be settled, and that lies in the order.
pub record IsAllSettled (progress : Progress Entry) : Type 0 where
  pub taken : progress.taken ≡ progress.settled
  pub within : progress.settled ≤ length progress.order

module _ {D L : Type 0} {disk : Ghosts D} where
  -- A run from one such moment to another: the events that its calls and answers are, behind all that happened before, make of the world
  -- at rest that it began with the one that it ends with. The world's board is the run's, its tickets have the run's tickets behind those
  -- that there were, its acknowledgements are those that gave a token, and it was sent the commands that were submitted.
  pub record IsSchedule (begin here : Between D disk) (calls : List Call) (answers : List (Answer D L)) : Type 0 where
    pub start : here.board.progress.start ≡ begin.board.progress.start
    pub settled : IsAllSettled here.board.progress
    pub goes : (earlier acks : List Ticket) (sent : List Command) (composed : List (ℕ × ℕ)) → (more : List (ℕ × ℕ))
        × (run (at_rest begin.board.progress earlier acks sent composed) (schedule (length earlier) calls answers)
        ≡ at_rest here.board.progress (earlier ++ here.tickets) (acks ++ acked here.tickets calls answers) (sent ++ commands_in calls) more)

-- Each run of calls that were answered one after another, from a board where all that is taken off is settled, is a schedule.
abbrev pub RunIsSchedule : (D L : Type 0) (disk : Ghosts D) → Type 0
RunIsSchedule D L disk =
    (cap : ℕ) (begin here : Between D disk) (calls : List Call) (answers : List (Answer D L)) → IsAllSettled begin.board.progress → begin.tickets ≡ []
    → AreNumbered calls → Answered cap begin calls answers here → IsSchedule begin here calls answers

-- And the first run over a store that was just opened is a schedule of a world that was.
abbrev pub FirstIsSchedule : (D L : Type 0) (disk : Ghosts D) → Type 0
FirstIsSchedule D L disk =
    (start : State) (cap : ℕ) (begin here : Between D disk) (calls : List Call) (answers : List (Answer D L)) → begin.board.progress ≡ begun_progress start → begin.tickets ≡ []
    → AreNumbered calls → Answered cap begin calls answers here
    → (more : List (ℕ × ℕ)) × (run (begun start) (schedule 0 calls answers) ≡ at_rest here.board.progress here.tickets (acked here.tickets calls answers) (commands_in calls) more)
