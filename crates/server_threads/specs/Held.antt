-- What a life begins with, and what is left of sessions that have ended, and of the thread that wrote beside them.
use Rattle.std.specs.Prelude.{◌≡◌, ◌≤◌, ◌↔◌, ◌+◌, ℕ, List, ◌++◌, length, All, sum_by, Result, Ok, OnOk, IsErrOf}
use mathlib.Core.List.{IsPrefix}
use Rattle.disk.specs.declared.device.Disk.{Ghosts}
use Rattle.refusal.specs.declared.Refusal.{Refusal}
use Rattle.refusal.specs.declared.Refusal.TheVariants.{Fault}
use Rattle.revision.specs.Command.{Taken}
use Rattle.revision.specs.State.{State, fold}
use Rattle.recovery.specs.declared.store.Store.{Store}
use Rattle.recovery.specs.Found.{commands_of}
use Rattle.recovery.specs.Open.{state_of}
use Rattle.world.specs.Progress as world
use Rattle.world.specs.World.{Entry, takens}
use Rattle.flusher.specs.declared.flusher.Flusher.{Flusher}
use Rattle.flusher.specs.Holding.{LastsSince, store_of, told_of, committed_of, waiting_of, opened_of}
use Rattle.flusher.specs.Lasting.{Surely}
use Rattle.turns.specs.Turning.{HasWritten}
use Rattle.published.specs.Books.{Books}
use Rattle.hub.specs.Legal.{IsOfRun, Tally}
use Rattle.hub_desk.specs.AtHub.{Desk}
use Rattle.server_threads.specs.Answers.{first_desk}
use Rattle.server_threads.specs.Served.{IsStarted}

-- desks at their beginning, one at least, where all other seats are tallied and have counted nothing
pub record AreSeated (parts : ℕ) (desks : List Desk) (tally : Tally) : Type 0 where
  pub first : All (λ (desk : Desk). desk ≡ first_desk) desks
  pub some : 1 ≤ length desks
  pub all : tally.seats + length desks + 1 ≡ parts
  pub none : tally.counted ≡ 0

-- Desks are tallied: none was told of more than this token of what is published has, nor found more than that of the order has, and the seats' count
-- is that of the desks.
pub record AreTallied (desks : List Desk) (longest : List (List Taken)) (ordered : List Entry) (counted : ℕ) : Type 0 where
  pub told : All (λ (desk : Desk). IsPrefix desk.told longest) desks
  pub found : All (λ (desk : Desk). IsPrefix desk.found ordered) desks
  pub counts : counted ≡ sum_by (λ (desk : Desk). desk.counted) desks

-- sessions have ended, the desks that they left are tallied, and this is so of the desks
pub record HaveEnded (Sessions : List Desk → Type 0) (longest : List (List Taken)) (ordered : List Entry) (counted : ℕ) : Type 0 where
  pub desks : List Desk
  pub tallied : AreTallied desks longest ordered counted
  pub sessions : Sessions desks

module _ {D : Type 0} {disk : Ghosts D} where
  -- A life is named by the logs and the blank ledger of one that hasn't begun, and by the state that its store holds.
  pub record IsNamed (book : Books) (name parts : ℕ) (start : State) (opened : Books) (blank_name blank_parts : ℕ) (store : Store D disk) : Type 0 where
    pub logs : opened ≡ book
    pub ledger : blank_name ≡ name
    pub seats : blank_parts ≡ parts
    pub state : state_of store ≡ start

module _ {D L : Type 0} {disk : Ghosts D} where
  -- A server serves nobody yet: its flusher was just started over the store that it holds, all seats of the life are there, none has counted anything,
  -- and none is tallied.
  pub record IsNewServer (parts : ℕ) (held : Store D disk) (flusher : Flusher D L disk) (seats : List ℕ) (tally : Tally) : Type 0 where
    pub store : held ≡ store_of flusher
    pub started : IsStarted flusher
    pub new : All (λ (seat : ℕ). seat ≡ 0) seats
    pub all : length seats + 1 ≡ parts
    pub none : tally ≡ record { seats = 0; counted = 0 }

  -- what its type keeps of a flusher: its store holds what is published and committed
  pub record IsKept (start : State) (flusher : Flusher D L disk) : Type 0 where
    pub state : state_of (store_of flusher) ≡ fold start (commands_of (told_of flusher ++ committed_of flusher))

  -- The desks of a flusher that has written are tallied, and each batch that it committed lasts from its moment on. The order begins with all that
  -- it was given and all that the desks found of it, so much of it was published, no desk was told of more than it committed, and the seats' count
  -- is that of the desks.
  pub record IsTallied (start : State) (desks : List Desk) (last : Flusher D L disk) (ordered : List Entry) (published counted : ℕ) (new : Store D disk) : Type 0 where
    pub store : new ≡ store_of last
    pub kept : IsKept start last
    pub lasts : Surely (LastsSince start (opened_of last) last)
    pub few_committed : length (committed_of last) ≤ 1
    pub few_waiting : length (waiting_of last) ≤ 1
    pub begins : IsPrefix (commands_of (told_of last ++ (committed_of last ++ waiting_of last))) (takens ordered)
    pub found : All (λ (desk : Desk). IsPrefix desk.found ordered) desks
    pub so_many : published ≡ length (commands_of (told_of last))
    pub told : All (λ (desk : Desk). IsPrefix desk.told (told_of last ++ committed_of last)) desks
    pub counts : counted ≡ sum_by (λ (desk : Desk). desk.counted) desks

  -- A flusher that was just started has written, the desks that its sessions left are tallied, and this is so of the desks.
  pub record HasHeld (Sessions : List Desk → Type 0) (start : State) (old : Flusher D L disk) (ordered : List Entry) (published counted : ℕ)
      (written : Result (Unit {0}) Refusal) (new : Store D disk) : Type 0 where
    pub last : Flusher D L disk
    pub desks : List Desk
    pub before : IsKept start old
    pub wrote : HasWritten start old last written
    pub tallied : IsTallied start desks last ordered published counted new
    pub sessions : Sessions desks

-- There was a board of this run, whose order begins with this and is as long as what the seats have counted; and the writing ended well only
-- where as many commands are published.
pub record IsCounted (start : State) (ordered : List Entry) (published counted : ℕ) (written : Result (Unit {0}) Refusal) : Type 0 where
  pub progress : world.Progress Entry
  pub run : IsOfRun start progress
  pub begins : IsPrefix ordered progress.order
  pub counts : length progress.order ≡ counted
  pub all : OnOk written (length progress.order ≡ published)
