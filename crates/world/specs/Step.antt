-- What each event makes of a world. One that isn't possible changes nothing, so every list of events is a schedule.
use Rattle.std.specs.Prelude.{ℕ, ◌+◌, ◌-◌, ◌==◌, ◌&&◌, ◌||◌, not, nat_lt, nat_le, if◌then◌else◌, max, Bool, true, false, Option, Some, None, List, [], ◌∷◌, ◌++◌, length, take, slice_get, option_to_list}
use Rattle.revision.specs.Command.{Taken, Command}
use Rattle.revision.specs.Past.{from_floor}
use Rattle.revision.specs.Window.{longest}
use Rattle.revision.specs.State.{DocumentRecord, revision_of, newest_revision, State, last_of_all, fold}
use Rattle.world.specs.Progress.{Ticket, submitted, ticket_of, can_take, taken_more, can_settle, settled_more, taken_beyond, can_ack}
use Rattle.world.specs.Event.{Outcome, Done, Failed, Stopped, Event, Submit, Take, Device, Publish, Settle, Ack, Compose, Crash, Open, Resend}
use Rattle.world.specs.World.{entry_of, takens, World, last_sent, last_composed}

-- the same state, where from now on no past is dropped but by deletions and by creations of what is deleted
abbrev pub keeping_all : State → State
keeping_all state = record state { limits = record state.limits { keep = last_of_all } }

-- the state that the order makes of the start, with all the past that it may have: each document's since the start, or since the last
-- deletion or creation again that came after it
abbrev pub whole : State → List Taken → State
whole start commands = record start { documents = (fold (keeping_all start) commands).documents }

-- each record from its floor on
abbrev pub with_floors : List DocumentRecord → List ℕ → List DocumentRecord
with_floors [] floors = []
with_floors (first ∷ others) [] = first ∷ others
with_floors (first ∷ others) (floor ∷ floors) = record first { past = from_floor first.past floor } ∷ with_floors others floors

-- A floor that an opening may give to a document: from the least one that it may have up to the greatest of that, what was composed, and
-- `keep` below the revision. The record is one with all the past that it may have, so its own floor is the least one.
abbrev pub may_begin_at : ℕ → ℕ → DocumentRecord → ℕ → Bool
may_begin_at keep composed found floor =
    nat_le found.past.floor floor && nat_le floor (max found.past.floor (max composed (revision_of found - keep))) && nat_le floor (revision_of found)

-- one such floor for each document, counted from this number on
abbrev pub may_pick : ℕ → List (ℕ × ℕ) → ℕ → List DocumentRecord → List ℕ → Bool
may_pick keep composed number [] [] = true
may_pick keep composed number [] (floor ∷ floors) = false
may_pick keep composed number (first ∷ others) [] = false
may_pick keep composed number (first ∷ others) (floor ∷ floors) =
    may_begin_at keep (last_composed number composed) first floor && may_pick keep composed (number + 1) others floors

-- numbers of commands are 1 to 2^53 - 1
abbrev pub is_numbered : Command → Bool
is_numbered command = nat_le 1 command.number && nat_le command.number last_of_all

-- a command comes to the board, which may give a ticket for it
abbrev pub with_command : World → Command → World
with_command world command = record world {
  board = submitted (entry_of command) world.board command;
  tickets = world.tickets ++ option_to_list (ticket_of world.board command);
  sent = world.sent ++ command ∷ [];
}

-- a batch is being written: it is taken off, a crash may leave the order without it, and the store hasn't failed
abbrev pub is_written : World → Bool
is_written world = nat_lt world.without world.board.taken && not world.failed

-- Its writing ends: where all is done a crash leaves it. Where a call failed or the writing was given up nobody knows, and the
-- store has failed.
abbrev pub written : World → Outcome → World
written world Done = record world { without = world.board.taken; with_batch = world.board.taken }
written world Failed = record world { failed = true }
written world Stopped = record world { failed = true }

abbrev pub acknowledged : World → Option Ticket → World
acknowledged world None = world
acknowledged world (Some ticket) = if can_ack world.board ticket then record world { acks = world.acks ++ ticket ∷ [] } else world

-- a length of the order that a crash may leave
abbrev pub may_leave : World → ℕ → Bool
may_leave world kept = (kept == world.without) || (kept == world.with_batch)

-- the commands that are left, with all that memory held gone
abbrev pub stopped : World → ℕ → World
stopped world kept = record world { without = kept; with_batch = kept; tickets = []; failed = false; crashed = true }

-- The store is opened with so many commands: the order ends there, and all of it is taken, settled and shown.
abbrev pub opened : World → ℕ → List ℕ → World
opened world kept floors =
    let order = take kept world.board.order in
    record world {
      board = record world.board {
        order = order;
        state = record world.board.start { documents = with_floors (whole world.board.start (takens order)).documents floors };
        taken = kept;
        settled = kept;
      };
      published = takens order;
      without = kept;
      with_batch = kept;
      tickets = [];
      failed = false;
      crashed = false;
    }

abbrev pub can_open : World → ℕ → List ℕ → Bool
can_open world kept floors =
    may_leave world kept
    && may_pick world.board.start.limits.keep world.composed 0 (whole world.board.start (takens (take kept world.board.order))).documents floors

-- a number is one of the last ones that were sent, as many as a window has at most
abbrev pub is_among_last : ℕ → ℕ → Bool
is_among_last number sent = nat_le number sent && nat_lt sent (number + longest)

-- a machine that runs
abbrev pub running_step : World → Event → World
running_step world (Submit command) = if is_numbered command then with_command world command else world
running_step world (Take count) =
    if can_take world.board count && (world.board.settled == world.board.taken)
    then record world { board = taken_more world.board count; with_batch = world.board.taken + count }
    else world
running_step world (Device outcome) = if is_written world then written world outcome else world
running_step world Publish =
    if nat_lt (length world.published) world.board.taken && (world.without == world.board.taken)
    then record world { published = world.published ++ takens (taken_beyond world.board (length world.published)) }
    else world
running_step world Settle =
    let count = world.board.taken - world.board.settled in
    if can_settle world.board count (length world.published) then record world { board = settled_more world.board count } else world
running_step world (Ack place) = acknowledged world (slice_get world.tickets place)
running_step world (Compose document revision) =
    let found = slice_get (fold world.board.start (takens (take world.without world.board.order))).documents document in
    if nat_le 1 revision && nat_le revision (newest_revision found)
    then record world { composed = world.composed ++ (document, revision) ∷ [] }
    else world
running_step world (Crash kept) = if may_leave world kept then stopped world kept else world
running_step world (Open kept floors) = if world.failed && can_open world kept floors then opened world kept floors else world
running_step world (Resend command) =
    if is_numbered command && is_among_last command.number (last_sent command.name command.source world.sent) then with_command world command else world

-- a machine that has stopped: nothing but an opening is possible
abbrev pub crashed_step : World → Event → World
crashed_step world (Open kept floors) = if can_open world kept floors then opened world kept floors else world
crashed_step world _ = world

-- one event
abbrev pub step : World → Event → World
step world event = if world.crashed then crashed_step world event else running_step world event

-- a list of events, in order
abbrev pub run : World → List Event → World
run world [] = world
run world (first ∷ others) = run (step world first) others
