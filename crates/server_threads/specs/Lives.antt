-- The lives of a server, one after another, each on what the one before it left; and what is promised over all of them.
use Rattle.std.specs.Prelude.{◌≡◌, ◌⊎◌, ◌≤◌, ◌<◌, ◌+◌, ℕ, Bool, false, List, [], ◌∷◌, ◌++◌, length, map, All, Any, AllPairs, Result, Ok, Err}
use Rattle.std.proofs.lemmas.Bool.{false≢true}
use mathlib.Core.List.{IsPrefix}
use Rattle.disk.specs.declared.device.Disk.{Ghosts}
use Rattle.disk.specs.Device.{History}
use Rattle.disk.specs.Crash.{LeftSince, MayLeaveNow, history_of}
use Rattle.refusal.specs.declared.Refusal.{Refusal}
use Rattle.refusal.specs.declared.Refusal.TheVariants.{NoMemory, StoreFailed}
use Rattle.revision.specs.Command.{Taken, Command}
use Rattle.revision.specs.Window.{longest}
use Rattle.revision.specs.State.{Limits, State, fold}
use Rattle.revision.specs.Acceptance.{Repeats, answer}
use Rattle.revision.specs.Agree.{Agree}
use Rattle.recovery.specs.declared.store.Store.{Store}
use Rattle.recovery.specs.Found.{commands_of, FoundAs}
use Rattle.recovery.specs.Moment.{Moment}
use Rattle.recovery.specs.Open.{IsOpen, device_of, state_of, has_failed}
use Rattle.recovery.specs.Opened.{IsOpenedStore}
use Rattle.world.specs.World.{Entry, takens, last_sent}
use Rattle.world.specs.Shown.{all_shown}
use Rattle.world.specs.Law.{IsSent, window_held, HasTaken}
use Rattle.flusher.specs.Lasting.{Surely}
use Rattle.session.specs.declared.reply.Reply.{Reply}
use Rattle.session.specs.declared.reply.Reply.TheVariants.{Again}
use Rattle.session.specs.Exchange.{Exchange, Answered}
use Rattle.session.specs.Replies.{Asks}
use Rattle.session.specs.Reply.{rev_of}
use Rattle.hub_desk.specs.AtHub.{Desk, PassesAtHub}
use Rattle.server_threads.specs.Answers.{first_desk}
use Rattle.server_threads.specs.Served.{WasServed}

-- an acknowledgement: a command, and the revision that the reply to it names, as taken or as a retry
pub record Acknowledged : Type 0 where
  pub command : Command
  pub revision : ℕ

-- the greatest number that the commands of an order have of this command's source in its document, 0 where there is none
abbrev pub last_taken : Command → List Entry → ℕ
last_taken command order = last_sent command.name command.source (map (λ (entry : Entry). entry.command) order)

-- What is promised of an order of commands since a start, of the acknowledgements that were given by then, and of the state that this has come to.
pub record IsPromised (start : State) (order : List Entry) (acks : List Acknowledged) (state : State) : Type 0 where
  -- Nothing that was acknowledged is missing: the order has it, or the start had it, as that revision.
  pub kept : All (λ (ack : Acknowledged). HasTaken start order ack.command ack.revision) acks
  -- Nothing is taken twice: no two places of the order have one number of a source in a document, and none has one that the start had.
  pub apart : AllPairs (λ (a b : Entry). IsSent a.command b.command → ⊥) order
  pub anew : All (λ (entry : Entry). (window_held start entry.command).number < entry.command.number) order
  -- Nothing has another revision: all acknowledgements of one number name one.
  pub one_revision : AllPairs (λ (a b : Acknowledged). IsSent a.command b.command → a.revision ≡ b.revision) acks
  -- A number that the order or the start has is answered as a retry, with its revision, unless the order has a number of its source that is
  -- greater by as many as a window has at most.
  pub again : (command : Command) (revision : ℕ) → 1 ≤ command.number → HasTaken start order command revision
      → last_taken command order < command.number + longest → answer state command ≡ Repeats revision
  -- The state shows what the order makes of the start.
  pub shows : all_shown state ≡ all_shown (fold start (takens order))

-- What is answered to a command that was taken in an earlier life: as a retry with its revision; or it is refused, where its source has had that
-- many greater numbers since, and else only out of memory or since the store has failed.
abbrev pub IsAnsweredAgain : List Entry → Command → ℕ → Result Reply Refusal → Type 0
IsAnsweredAgain order command revision (Ok reply) = reply ≡ Again revision
IsAnsweredAgain order command revision (Err refusal) =
    1 ≤ command.number → last_taken command order < command.number + longest → (refusal ≡ NoMemory) ⊎ (refusal ≡ StoreFailed)

-- A desk of these gave a command this answer at some point of its exchanges: what it exchanged up to then, what it was then, and what it exchanged
-- later.
pub record HasAnswered (start : State) (desks : List Desk) (command : Command) (given : Result Reply Refusal) : Type 0 where
  pub earlier : List Exchange
  pub mid : Desk
  pub later : List Exchange
  pub before : Asks (PassesAtHub start) first_desk (earlier ++ Answered command given ∷ []) mid
  pub after : Any (λ (last : Desk). Asks (PassesAtHub start) mid later last) desks

-- A content represents a state that shows the same documents as this one, with the same revisions and windows. So do what a crash left of a store
-- that held it, and each copy of that, though a copy may have other limits.
pub record Represents (content : List ℕ) (state : State) : Type 0 where
  pub there : State
  pub found : FoundAs content there
  pub shows : all_shown there ≡ all_shown state

-- What a device had been through when the commit of the last of these batches had ended, by the moments at which those of a life's batches had,
-- in order: where there is no batch, what it had been through at the beginning.
abbrev pub history_at : History → List Moment → List (List Taken) → History
history_at begun moments [] = begun
history_at begun [] (batch ∷ others) = begun
history_at begun (moment ∷ moments) (batch ∷ others) = history_at moment.device moments others

-- whatever the sessions of a life were
abbrev pub AnySessions : List Desk → Type 0
AnySessions desks = Unit {0}

module _ {D : Type 0} {disk : Ghosts D} where
  -- A life of a server, as `serve_on` and `serve_streams` leave it, where neither its sessions nor how it ended matters.
  abbrev pub Lived : Store D disk → Store D disk → Type 0
  Lived old new = WasServed AnySessions false old new

  -- each of theirs is one
  abbrev pub lived : {Sessions : List Desk → Type 0} {well : Bool} {old new : Store D disk} → WasServed Sessions well old new → Lived old new
  lived served = record {
    order = served.order;
    written = served.written;
    waiting = served.waiting;
    moments = served.moments;
    desks = served.desks;
    is_written = served.is_written;
    kept = served.kept;
    whole = λ is. absurd (false≢true is);
    sessions = tt;
    answers = served.answers;
    nothing_else = served.nothing_else;
  }

  -- A desk of the life gave an acknowledgement, when it had been told of commands that are all among these.
  pub record HasGiven (old new : Store D disk) (life : Lived old new) (first : List Taken) (ack : Acknowledged) : Type 0 where
    pub reply : Reply
    pub names : rev_of reply ≡ ack.revision
    pub answered : HasAnswered (state_of old) life.desks ack.command (Ok reply)
    pub told : IsPrefix (commands_of answered.mid.told) first

  -- A crash left this content at a moment from this one on, before the life had ended with this store or after that.
  abbrev pub IsLeftFrom : History → Store D disk → List ℕ → Type 0
  IsLeftFrom from last content = LeftSince (history_of disk (device_of last)) (length from.past) content ⊎ MayLeaveNow disk (device_of last) content

  -- A desk of the life gave an acknowledgement, and it may have been heard of when a crash left this content: the crash came no earlier than the
  -- moment at which the commit had ended of the last batch that the desk had been told of when it answered.
  pub record WasHeard (old new : Store D disk) (life : Lived old new) (content : List ℕ) (ack : Acknowledged) : Type 0 where
    pub reply : Reply
    pub names : rev_of reply ≡ ack.revision
    pub answered : HasAnswered (state_of old) life.desks ack.command (Ok reply)
    pub since : IsLeftFrom (history_at (history_of disk (device_of old)) life.moments answered.mid.told) new content

  -- What a content has of a life: the first commands of its order, among them all that a desk had been told of when it gave one of these
  -- acknowledgements.
  pub record HasLeft (old new : Store D disk) (life : Lived old new) (left : List Entry) (heard : List Acknowledged) (content : List ℕ) : Type 0 where
    pub first : IsPrefix left life.order
    pub found : Represents content (fold (state_of old) (takens left))
    pub given : All (HasGiven old new life (takens left)) heard

  -- A store was opened on a content by some pick of cells, as `Store::open` says, and its device has kept its word.
  pub record IsOpenedOn (content : List ℕ) (store : Store D disk) : Type 0 where
    pub opened : (pick : _) × IsOpenedStore content pick store
    pub honest : disk.honest (device_of store)

  -- Lives that ended, one after another, and the store that was opened then: the commands that stand, and the acknowledgements that were heard
  -- of. The first life is of any store. Each further one is of a store that was opened on what the life before it left, and this stands behind
  -- what stood already.
  pub data Lives (start : State) : List Entry → List Acknowledged → Store D disk → Type 0 where
    First : (store : Store D disk) → state_of store ≡ start → Lives start [] [] store
    Next : (stand : List Entry) (acks : List Acknowledged) (old new next : Store D disk) (life : Lived old new) (left : List Entry) (heard : List Acknowledged) (content : List ℕ)
        → Lives start stand acks old → HasLeft old new life left heard content → IsOpenedOn content next → Lives start (stand ++ left) (acks ++ heard) next

module _ (D : Type 0) (disk : Ghosts D) where
  -- Whatever lives there were: what is promised holds of all that stands, of all acknowledgements that were heard of, and of the state that the next
  -- store is opened with.
  abbrev pub LivesKept : Type 0
  LivesKept = (start : State) (stand : List Entry) (acks : List Acknowledged) (store : Store D disk) → Lives start stand acks store → IsPromised start stand acks (state_of store)

  -- However much of its order the present life has come to, the same holds with that, and with the acknowledgements that its own desks gave when they
  -- had been told of no more.
  abbrev pub AllLives : Type 0
  AllLives =
      (start : State) (stand : List Entry) (acks : List Acknowledged) (old new : Store D disk) (life : Lived old new) (done : List Entry) (given : List Acknowledged)
      → Lives start stand acks old → IsPrefix done life.order → All (HasGiven old new life (takens done)) given
      → IsPromised start (stand ++ done) (acks ++ given) (fold (state_of old) (takens done))

  -- And what was taken in them isn't taken again in the present one, whichever desk is asked: of the present order counts what the desk had
  -- found of it when it answered.
  abbrev pub AskedAgain : Type 0
  AskedAgain =
      (start : State) (stand : List Entry) (acks : List Acknowledged) (old new : Store D disk) (life : Lived old new) (command : Command) (revision : ℕ) (given : Result Reply Refusal)
      → Lives start stand acks old → HasTaken start stand command revision → (answered : HasAnswered (state_of old) life.desks command given)
      → IsAnsweredAgain (stand ++ answered.mid.found) command revision given

  -- What a crash leaves of a life, at any moment of it or after it, has all that was heard of by then.
  abbrev pub CrashLeaves : Type 0
  CrashLeaves =
      (old new : Store D disk) (life : Lived old new) (heard : List Acknowledged) (content : List ℕ)
      → has_failed old ≡ false → IsOpen old → IsLeftFrom (history_of disk (device_of old)) new content → All (WasHeard old new life content) heard
      → Surely ((left : List Entry) × HasLeft old new life left heard content)

  -- So has each copy of that: a content that represents a state which agrees, but for limits, with the one that the other represents.
  abbrev pub CopyLeaves : Type 0
  CopyLeaves =
      (old new : Store D disk) (life : Lived old new) (left : List Entry) (heard : List Acknowledged) (content other : List ℕ) (copy : State) (limits : Limits)
      → (leaves : HasLeft old new life left heard content) → FoundAs other copy → Agree copy (record leaves.found.there { limits = limits })
      → HasLeft old new life left heard other

  -- A store that is opened on what was left of a life is open and works, so that all of this applies to its own life.
  abbrev pub OpensAgain : Type 0
  OpensAgain =
      (old new next : Store D disk) (life : Lived old new) (left : List Entry) (heard : List Acknowledged) (content : List ℕ)
      → HasLeft old new life left heard content → IsOpenedOn content next → IsOpen next × (has_failed next ≡ false)
