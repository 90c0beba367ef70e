-- What the life of a server leaves of its store, and of what its sessions were answered, however many there were.
use Rattle.std.specs.Prelude.{◌≡◌, ◌≢◌, ◌≤◌, ◌↔◌, ℕ, Bool, true, false, List, [], ◌∷◌, ◌++◌, length, All, sum_by, Result, is_ok, IfErr, IsErrOf}
use mathlib.Core.List.{IsPrefix}
use Rattle.disk.specs.declared.device.Disk.{Ghosts}
use Rattle.disk.specs.Crash.{LeavesOnly, MayLeaveNow}
use Rattle.refusal.specs.declared.Refusal.{Refusal}
use Rattle.refusal.specs.declared.Refusal.TheVariants.{JournalFull, StillNeeded, Fault}
use Rattle.refusal.specs.Refusal.{IsOneOf}
use Rattle.revision.specs.Command.{Taken}
use Rattle.revision.specs.State.{State, fold}
use Rattle.recovery.specs.declared.store.Store.{Store}
use Rattle.recovery.specs.Found.{commands_of, FoundAs}
use Rattle.recovery.specs.Moment.{Moment}
use Rattle.recovery.specs.Open.{IsOpen, device_of, state_of, moment_now, has_failed}
use Rattle.recovery.specs.Goes.{Goes}
use Rattle.world.specs.World.{Entry, takens}
use Rattle.published.specs.Moments.{AreMoments}
use Rattle.published.specs.Order.{IsLegal}
use Rattle.flusher.specs.declared.flusher.Flusher.{Flusher}
use Rattle.flusher.specs.Batches.{IsBeginning}
use Rattle.flusher.specs.Holding.{store_of, told_of, committed_of, waiting_of, opened_of}
use Rattle.flusher.specs.Lasting.{EachLasts, Surely}
use Rattle.turns.specs.Writing.{WasAt}
use Rattle.session.specs.Exchange.{Exchange}
use Rattle.session.specs.Replies.{Asks}
use Rattle.hub_desk.specs.AtHub.{Desk, PassesAtHub}
use Rattle.hub_desk.specs.Standing.{AllStand}
use Rattle.server_threads.specs.Answers.{AllHaveCauses, AllHavePlaces, Counts, HoldsAll, first_desk}

module _ {D : Type 0} {disk : Ghosts D} where
  -- There is one order, a legal history from what the store held. The first of its commands were to be written, in batches one after
  -- another: those that are written, whose result the store holds, and one at most that isn't. A crash at any moment leaves what a prefix of
  -- the batches makes. And for any prefix of those that are written there was a moment at which the store held exactly the result of
  -- that prefix, and a crash from there on leaves no fewer commands.
  pub record IsWritten (order : List Entry) (written waiting : List (List Taken)) (old new : Store D disk) : Type 0 where
    pub legal : IsLegal (state_of old) order
    pub begins : IsPrefix (commands_of (written ++ waiting)) (takens order)
    pub state : state_of new ≡ fold (state_of old) (commands_of written)
    pub few : length waiting ≤ 1
    pub goes : Goes (IsBeginning 0 (state_of old) (written ++ waiting)) old new
    pub each : (first : List (List Taken)) → IsPrefix first written → WasAt (state_of old) 0 first (written ++ waiting) old new

  -- There is one moment for each batch that is written, in order, at which its commit had ended. The store held exactly what the batches up to this
  -- one make then, over a device that was synced; and a crash from there on leaves no fewer commands.
  pub record AreLasting (written waiting : List (List Taken)) (moments : List Moment) (old new : Store D disk) : Type 0 where
    pub timed : AreMoments (state_of old) written moments
    pub each : EachLasts (state_of old) old (written ++ waiting) new [] written moments

  -- A store is that of the moment at which the commit of the last of these first batches had ended; where there is none, it is the one at the
  -- beginning.
  abbrev pub IsAtMoment : List Moment → List (List Taken) → Store D disk → Store D disk → Type 0
  IsAtMoment moments [] old at = at ≡ old
  IsAtMoment moments (batch ∷ others) old at =
      (earlier : List Moment) × (later : List Moment) × (moments ≡ earlier ++ moment_now at ∷ later) × (length earlier ≡ length others)

  -- All of the order is written, and a crash leaves exactly what the store holds.
  pub record IsWhole (order : List Entry) (written waiting : List (List Taken)) (old new : Store D disk) : Type 0 where
    pub all : commands_of written ≡ takens order
    pub none : waiting ≡ []
    pub lasts : has_failed old ≡ false → IsOpen old → (content : List ℕ) → MayLeaveNow disk (device_of new) content → FoundAs content (state_of new)

  -- There was a moment at which the store held exactly these first batches, in which all stands that was answered; and a crash from there on
  -- leaves a state in which it does.
  pub record IsKeptFrom (start : State) (answered : List Exchange) (first all : List (List Taken)) (old new : Store D disk) : Type 0 where
    pub was : WasAt start 0 first all old new
    pub stand : AllStand (fold start (commands_of first)) answered
    pub lasts : has_failed old ≡ false → IsOpen old → LeavesOnly disk (HoldsAll answered) (device_of was.between) (device_of new)

  -- There was such a moment, and it is the one at which the commit of the last of these batches had ended.
  pub record IsKeptSinceCommit (start : State) (answered : List Exchange) (first all : List (List Taken)) (moments : List Moment) (old new : Store D disk) : Type 0 where
    pub from : IsKeptFrom start answered first all old new
    pub at : IsAtMoment moments first old from.was.between

  -- What a desk answered is kept. It was told of a prefix of the batches that are written, within which each command that it
  -- acknowledged has its place, as the rule of acceptance says; its seat counted what `Counts` says; all that it acknowledged stands in what
  -- the store holds; and for any point in the exchange there was a moment from which on no crash takes away what was acknowledged by then: a
  -- commit had ended there, of the last batch that the desk was told of by that point.
  -- What it had found at any point in the exchange is a prefix of the order: so each refusal by the rule of acceptance is one after a prefix
  -- of that one order, which begins with what was found before (`IsRefusedAt`).
  pub record KeepsAnswers (order : List Entry) (written waiting : List (List Taken)) (moments : List Moment) (old new : Store D disk) (last : Desk) : Type 0 where
    pub told : IsPrefix last.told written
    pub places : (asked : List Exchange) → Asks (PassesAtHub (state_of old)) first_desk asked last
        → AllHavePlaces (state_of old) (commands_of last.told) asked
    pub counts : (asked : List Exchange) → Asks (PassesAtHub (state_of old)) first_desk asked last → Counts 0 asked last.counted
    pub stand : (asked : List Exchange) → Asks (PassesAtHub (state_of old)) first_desk asked last → AllStand (state_of new) asked
    pub each_answer : (answered others : List Exchange) (mid : Desk) → Asks (PassesAtHub (state_of old)) first_desk answered mid
        → Asks (PassesAtHub (state_of old)) mid others last → IsKeptFrom (state_of old) answered mid.told (written ++ waiting) old new
    pub since_commit : (answered others : List Exchange) (mid : Desk) → Asks (PassesAtHub (state_of old)) first_desk answered mid
        → Asks (PassesAtHub (state_of old)) mid others last → Surely (IsKeptSinceCommit (state_of old) answered mid.told (written ++ waiting) moments old new)
    pub found : (others : List Exchange) (mid : Desk) → Asks (PassesAtHub (state_of old)) mid others last → IsPrefix mid.found order
    pub causes : (asked : List Exchange) → Asks (PassesAtHub (state_of old)) first_desk asked last → AllHaveCauses (state_of old) (takens order) asked

  -- The life of a server, where `Sessions` says what its desks exchanged: one order and what is written of it, which is all of it where
  -- the life ended well, and the moment of each batch's commit; what each desk answered is kept; and nothing was ordered but what the seats of these desks counted.
  pub record WasServed (Sessions : List Desk → Type 0) (well : Bool) (old new : Store D disk) : Type 0 where
    pub order : List Entry
    pub written : List (List Taken)
    pub waiting : List (List Taken)
    pub moments : List Moment
    pub desks : List Desk
    pub is_written : IsWritten order written waiting old new
    pub kept : Surely (AreLasting written waiting moments old new)
    pub whole : well ≡ true → IsWhole order written waiting old new
    pub sessions : Sessions desks
    pub answers : All (KeepsAnswers order written waiting moments old new) desks
    pub nothing_else : length order ≡ sum_by (λ (desk : Desk). desk.counted) desks

  -- Such a life, and how its writing ended: it fails exactly with the device, and is refused otherwise only by a full journal.
  pub record HasLived (Sessions : List Desk → Type 0) (written : Result (Unit {0}) Refusal) (old new : Store D disk) : Type 0 where
    pub served : WasServed Sessions (is_ok written) old new
    pub fails : has_failed old ≡ false → (has_failed new ≡ true ↔ IsErrOf written Fault)
    pub causes : IfErr written (λ e. e ≢ Fault → IsOneOf e (JournalFull ∷ StillNeeded ∷ []))

module _ {D L : Type 0} {disk : Ghosts D} where
  -- a flusher that has nothing to write, showed readers nothing yet, and began with the store that it has
  pub record IsStarted (flusher : Flusher D L disk) : Type 0 where
    pub nothing : told_of flusher ≡ []
    pub none : committed_of flusher ≡ []
    pub idle : waiting_of flusher ≡ []
    pub opened : opened_of flusher ≡ store_of flusher
