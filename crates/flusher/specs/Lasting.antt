-- What a flusher's type keeps, between any two of its calls, of the moments at which its batches had been committed.
use Rattle.std.specs.Prelude.{◌≡◌, false, Option, List, [], ◌∷◌, ◌++◌, length, option_to_list}
use Rattle.std.specs.Option.{option_map}
use Rattle.disk.specs.declared.device.Disk.{Ghosts}
use Rattle.revision.specs.Command.{Taken}
use Rattle.revision.specs.State.{State, fold}
use Rattle.recovery.specs.declared.store.Store.{Store}
use Rattle.recovery.specs.Found.{commands_of}
use Rattle.recovery.specs.Goes.{Goes}
use Rattle.recovery.specs.Moment.{Moment}
use Rattle.recovery.specs.Open.{has_failed, moment_now, state_of}
use Rattle.view.specs.Published.{Published}
use Rattle.hub.specs.Runs.{Run}
use Rattle.flusher.specs.Batches.{IsBeginning}

-- A is so, without saying by what: of a moment, that there was one. A type keeps only facts that don't differ by what shows them.
abbrev pub Surely : Type 0 → Type 0
Surely A = ∥ A ∥₁

-- all batches that a flusher was given: what is published, what is to be published, and what is held
abbrev pub given_in : Published → Option Run → List (List Taken)
given_in publisher waiting = publisher.told ++ (publisher.unpublished ++ option_to_list (option_map (λ r. r.commands) waiting))

module _ {D : Type 0} {disk : Ghosts D} where
  -- A store that was opened came to this moment, and held exactly what these first batches make then. A crash before it leaves a prefix of all
  -- batches; and a crash at any moment from there up to now one of no fewer commands than the first batches have.
  pub record IsLasting (start : State) (opened : Store D disk) (first all : List (List Taken)) (moment : Moment) (now : Store D disk) : Type 0 where
    pub at : Store D disk
    pub is : moment ≡ moment_now at
    pub state : state_of at ≡ fold start (commands_of first)
    pub works : has_failed at ≡ false
    pub before : Goes (IsBeginning 0 start all) opened at
    pub behind : Goes (IsBeginning (length (commands_of first)) start all) at now

  -- So it is of each of these batches, which come after others, and of its moment.
  abbrev pub EachLasts : State → Store D disk → List (List Taken) → Store D disk → List (List Taken) → List (List Taken) → List Moment → Type 0
  EachLasts start opened all now before [] [] = Unit {0}
  EachLasts start opened all now before [] (moment ∷ moments) = ⊥
  EachLasts start opened all now before (batch ∷ batches) [] = ⊥
  EachLasts start opened all now before (batch ∷ batches) (moment ∷ moments) =
      IsLasting start opened (before ++ batch ∷ []) all moment now × EachLasts start opened all now (before ++ batch ∷ []) batches moments

  -- A crash at any moment from the opening up to now leaves a prefix of the batches that a flusher was given; and each batch that is published, or
  -- committed, lasts from its moment on.
  pub record Lasts (start : State) (opened : Store D disk) (publisher : Published) (waiting : Option Run) (now : Store D disk) : Type 0 where
    pub goes : Goes (IsBeginning 0 start (given_in publisher waiting)) opened now
    pub each : EachLasts start opened (given_in publisher waiting) now [] (publisher.told ++ publisher.unpublished) publisher.moments
