-- One thread's run: what each call gives, and what the answers say at the end.
use Rattle.std.specs.Prelude.{◌≡◌, ◌≤◌, ◌⊎◌, ℕ, true, false, Option, Some, None, Result, Ok, Err, List, [], ◌∷◌, ◌++◌, length, take, slice_get}
use Rattle.disk.specs.declared.device.Disk.{Ghosts}
use Rattle.refusal.specs.declared.Refusal.{Refusal}
use Rattle.refusal.specs.declared.Refusal.TheVariants.{JournalFull, StillNeeded, NoMemory, Fault}
use Rattle.revision.specs.Command.{Taken}
use Rattle.revision.specs.State.{fold}
use Rattle.revision.specs.Acceptance.{Refuses, answer}
use Rattle.world.specs.Progress.{Ticket, submitted, ticket_of, next_run, taken_more, settled_more, can_ack}
use Rattle.world.specs.World.{entry_of, takens}
use Rattle.recovery.specs.declared.store.Store.{Store}
use Rattle.recovery.specs.declared.run.StoreStep.TheVariants.{Milestone as PutsMilestone, Retire as Retires}
use Rattle.recovery.specs.Begun.{IsLeftByMemory}
use Rattle.recovery.specs.Found.{commands_of}
use Rattle.recovery.specs.Open.{IsOpen, IsUnchanged, state_of, has_failed, has_room}
use Rattle.recovery.specs.Run.{IsTaken, IsWhy}
use Rattle.hub.specs.Legal.{Board}
use Rattle.hub.specs.Runs.{IsLongest, untaken}
use Rattle.flusher.specs.Flushers.{IsUsedUp, IsCommittedTo}
use Rattle.flusher.specs.Holding.{store_of}
use Rattle.lives.specs.declared.calls.Call.{Call}
use Rattle.lives.specs.declared.calls.Call.TheVariants.{Submit, Turn, Ack, Milestone, Retire}
use Rattle.lives.specs.declared.calls.Answer.{Answer}
use Rattle.lives.specs.declared.calls.Answer.TheVariants.{Submitted, Turned, Acked, Put, Retired, Refused}
use Rattle.flusher.specs.declared.flusher.Flusher.{Flusher}

-- What stands between two calls of a run: the board, the tickets that were given, in order, and the store.
pub record Between (D : Type 0) (disk : Ghosts D) : Type 0 where
  pub board : Board
  pub tickets : List Ticket
  pub store : Store D disk

-- What an acknowledgement gives for a ticket, or for none: exactly when the ticket's length is settled, the board's token of all that
-- was published.
abbrev pub AckGives : Board → Option Ticket → Option (List (List Taken)) → Type 0
AckGives board None told = told ≡ None
AckGives board (Some ticket) None = can_ack board.progress ticket ≡ false
AckGives board (Some ticket) (Some told) = (can_ack board.progress ticket ≡ true) × (told ≡ board.told) × (ticket.length ≤ length (commands_of told))

-- batches with one more behind them, if it has a command
abbrev pub with_run : List (List Taken) → List Taken → List (List Taken)
with_run told [] = told
with_run told (first ∷ others) = told ++ (first ∷ others) ∷ []

-- Turn: so many of the next commands are taken off and settled, and the board is told that they were published as one batch.
abbrev pub turned : Board → ℕ → Board
turned board count =
    record board { progress = settled_more (taken_more board.progress count) count; told = with_run board.told (takens (next_run board.progress count)) }

module _ {D : Type 0} {disk : Ghosts D} where
  -- the commands of a run are committed as one batch; of none the store is left unchanged
  abbrev pub IsRunCommitted : List Taken → Store D disk → Store D disk → Type 0
  IsRunCommitted [] old new = new ≡ old
  IsRunCommitted (first ∷ others) old new = IsCommittedTo (first ∷ others) old new

  -- What a turn that is refused leaves of the board and the store: both as they were, or the run that it was to write is taken off the
  -- board, and nothing is settled.
  abbrev pub IsUnsettled : ℕ → Board → Store D disk → Board → Store D disk → Type 0
  IsUnsettled cap board store board-after store-after =
      ((board-after ≡ board) × (store-after ≡ store))
      ⊎ ((count : ℕ) × IsLongest cap (untaken board.progress) count × (1 ≤ count) × (board-after ≡ record board { progress = taken_more board.progress count }))

  -- What a call leaves that was begun and isn't answered: no ticket is given, and nothing more is settled. A submission leaves all
  -- unchanged, and an acknowledgement is always answered. A milestone leaves the board and the tickets, and where the store works still,
  -- memory ran out, and no more is changed of the store than that the document's job is dropped. A retirement leaves the board and the
  -- tickets, and the store has failed.
  abbrev pub IsUnanswered : ℕ → Between D disk → Call → Between D disk → Type 0
  IsUnanswered cap here (Submit command) after = after ≡ here
  IsUnanswered cap here Turn after = (after.tickets ≡ here.tickets) × IsUnsettled cap here.board here.store after.board after.store
  IsUnanswered cap here (Ack at) after = ⊥
  IsUnanswered cap here (Milestone document revision) after =
      (after.board ≡ here.board) × (after.tickets ≡ here.tickets)
      × (has_failed after.store ≡ false → IsLeftByMemory (PutsMilestone document revision) here.store after.store)
  IsUnanswered cap here Retire after = (after.board ≡ here.board) × (after.tickets ≡ here.tickets) × (has_failed after.store ≡ true)

module _ {D L : Type 0} {disk : Ghosts D} where
  -- what the calls of a run speak of
  abbrev pub between : Board → List Ticket → Flusher D L disk → Between D disk
  between board tickets flusher = record { board = board; tickets = tickets; store = store_of flusher }

  -- What a call gives, and what it makes of the board, of the list of the tickets and of the store: of the board as the world's step of
  -- that name says, and of the store as the store's own step says. A turn settles the longest run of the next commands whose batch has
  -- at most `cap` bytes.
  abbrev pub Gives : ℕ → Between D disk → Call → Answer D L → Between D disk → Type 0
  Gives cap here (Submit command) (Submitted at) after =
      (after.board ≡ record here.board { progress = submitted (entry_of command) here.board.progress command }) × (at ≡ length here.tickets)
      × ((ticket : Ticket) × (Some ticket ≡ ticket_of here.board.progress command) × (after.tickets ≡ here.tickets ++ ticket ∷ []))
      × (after.store ≡ here.store)
  Gives cap here (Submit command) (Refused refusal) after = (after ≡ here) × (answer here.board.progress.state command ≡ Refuses refusal)
  Gives cap here Turn (Turned count) after =
      IsLongest cap (untaken here.board.progress) count × (after.board ≡ turned here.board count) × (after.tickets ≡ here.tickets)
      × (state_of after.store ≡ fold (state_of here.store) (takens (next_run here.board.progress count)))
      × IsRunCommitted (takens (next_run here.board.progress count)) here.store after.store
  Gives cap here (Ack at) (Acked told) after = (after ≡ here) × AckGives here.board (slice_get here.tickets at) told
  Gives cap here (Milestone document revision) Put after =
      (after.board ≡ here.board) × (after.tickets ≡ here.tickets) × IsTaken (PutsMilestone document revision) here.store after.store
  Gives cap here (Milestone document revision) (Refused refusal) after =
      (after.board ≡ here.board) × (after.tickets ≡ here.tickets) × IsUnchanged here.store after.store
      × IsWhy (PutsMilestone document revision) refusal here.store
  Gives cap here Retire Retired after = (after.board ≡ here.board) × (after.tickets ≡ here.tickets) × IsTaken Retires here.store after.store
  Gives cap here Retire (Refused refusal) after =
      (after.board ≡ here.board) × (after.tickets ≡ here.tickets) × IsUnchanged here.store after.store × IsWhy Retires refusal here.store
  Gives cap here call reply after = ⊥

  -- Calls that were answered one after another. After each the store works, and it is open where it was before.
  pub data Answered (cap : ℕ) (start : Between D disk) : List Call → List (Answer D L) → Between D disk → Type 0 where
    Begins : Answered cap start [] [] start
    Follows : (calls : List Call) (answers : List (Answer D L)) (here : Between D disk) (call : Call) (reply : Answer D L) (after : Between D disk)
        → Answered cap start calls answers here → Gives cap here call reply after
        → has_failed after.store ≡ false → (IsOpen here.store → IsOpen after.store)
        → Answered cap start (calls ++ call ∷ []) (answers ++ reply ∷ []) after

  -- The first calls were answered one after another, so many of them as there are answers. Behind them nothing was done, or the next call
  -- was begun and isn't answered: that gave no ticket, changed nothing of the order and settled nothing.
  pub record IsAnswered (cap : ℕ) (start after : Between D disk) (calls : List Call) (answers : List (Answer D L)) : Type 0 where
    pub last : Between D disk
    pub answered : Answered cap start (take (length answers) calls) answers last
    pub tickets : after.tickets ≡ last.tickets
    pub order : after.board.progress.order ≡ last.board.progress.order
    pub settled : after.board.progress.settled ≡ last.board.progress.settled
    pub behind : (after ≡ last) ⊎ ((call : Call) × (slice_get calls (length answers) ≡ Some call) × IsUnanswered cap last call after)

module _ {D L : Type 0} where
  -- An acknowledgement that named what was published: its ticket's length is settled.
  abbrev pub IsHeld : ℕ → List Ticket → Call → Answer D L → Type 0
  IsHeld settled tickets (Ack at) (Acked (Some told)) = (ticket : Ticket) × (slice_get tickets at ≡ Some ticket) × (ticket.length ≤ settled)
  IsHeld settled tickets call reply = Unit {0}

  -- that of each acknowledgement, where each of these calls has its answer
  abbrev pub AreHeld : ℕ → List Ticket → List Call → List (Answer D L) → Type 0
  AreHeld settled tickets [] [] = Unit {0}
  AreHeld settled tickets (call ∷ calls) (reply ∷ answers) = IsHeld settled tickets call reply × AreHeld settled tickets calls answers
  AreHeld settled tickets [] (reply ∷ answers) = ⊥
  AreHeld settled tickets (call ∷ calls) [] = ⊥

-- what stopped a run, if anything did
abbrev pub stop_of : Result (Unit {0}) Refusal → Option Refusal
stop_of (Ok done) = None
stop_of (Err refusal) = Some refusal

module _ {D L : Type 0} {disk : Ghosts D} where
  -- Why the write of a run is refused, where neither the device failed nor memory ran out, and what that leaves: the run isn't committed,
  -- since it finds no room in the journal, whose last segment is opened.
  pub record IsRunRefused (store : Store D disk) (run : List Taken) (refusal : Refusal) (after : Flusher D L disk) : Type 0 where
    pub why : (refusal ≡ JournalFull) ⊎ (refusal ≡ StillNeeded)
    pub no_room : has_room store run ≡ false
    pub last : IsUsedUp store
    pub state : state_of (store_of after) ≡ state_of store

  -- Why a turn is refused, likewise: it took off a run with a command, and the write of that is refused.
  abbrev pub IsTurnRefused : ℕ → Board → Store D disk → Refusal → Flusher D L disk → Type 0
  IsTurnRefused cap board store refusal after =
      (count : ℕ) × IsLongest cap (untaken board.progress) count × (1 ≤ count) × IsRunRefused store (takens (next_run board.progress count)) refusal after

module _ {D L : Type 0} {disk : Ghosts D} where
  -- The call behind those that were answered is a turn, and by what stood there it is refused so, and leaves this flusher.
  pub record StopsAtTurn (cap : ℕ) (start : Between D disk) (calls : List Call) (answers : List (Answer D L)) (refusal : Refusal) (after : Flusher D L disk) : Type 0 where
    pub last : Between D disk
    pub answered : Answered cap start (take (length answers) calls) answers last
    pub turns : slice_get calls (length answers) ≡ Some Turn
    pub refused : IsTurnRefused cap last.board last.store refusal after

  -- Why a run stops at a call, and with which flusher: out of memory, at a fault of the device, or where a turn is refused.
  abbrev pub Stops : ℕ → Between D disk → List Call → List (Answer D L) → Refusal → Flusher D L disk → Type 0
  Stops cap start calls answers refusal after = ((refusal ≡ NoMemory) ⊎ (refusal ≡ Fault)) ⊎ StopsAtTurn cap start calls answers refusal after
