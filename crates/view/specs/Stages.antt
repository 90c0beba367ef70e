-- How far the publishing of a batch has come.
use Rattle.std.specs.Prelude.{◌≡◌, ◌≤◌, ◌<◌, ◌+◌, ◌^◌, List, [], ◌∷◌, ◌++◌, length}
use mathlib.Core.List.{IsPrefix}
use Rattle.revision.specs.Command.{Taken}
use Rattle.revision.specs.Made.{AreMade}
use Rattle.revision.specs.State.{State, fold}
use Rattle.disk.specs.declared.device.Disk.{Ghosts}
use Rattle.recovery.specs.Found.{commands_of}
use Rattle.recovery.specs.Moment.{Moment, IsMomentOf, moment_of}
use Rattle.world.specs.World.{takens}
use Rattle.view.specs.News.{News}
use Rattle.view.specs.Shown.{Seen, IsShown}
use Rattle.view.specs.declared.publisher.Stage.{Stage}
use Rattle.view.specs.declared.publisher.Stage.TheVariants.{Idle, Held, Logged, Queued}

-- a batch, as it is to be shown with the batches that are then published
abbrev pub news_of : List Taken → List (List Taken) → News
news_of batch next = record { batch = batch; published = next }

-- what is shown is what exactly these batches make of the start
abbrev pub AreShown : State → List (List Taken) → Seen → Type 0
AreShown start told shown = IsShown start shown × (shown.published ≡ told)

-- A batch has a command, and is the next part of the order after what is published, which then has fewer than 2^64 commands.
pub record IsNext (told batch order : List Taken) : Type 0 where
  pub some : 1 ≤ length batch
  pub few : length told + length batch < 2 ^ 64
  pub next : IsPrefix (told ++ batch) order

module _ {D L : Type 0} where
  -- the batch that is to be published
  abbrev pub held_in : Stage D L → List (List Taken)
  held_in Idle = []
  held_in (Held receipt ordered made) = receipt.batch ∷ []
  held_in (Logged receipt next) = receipt.batch ∷ []
  held_in (Queued receipt next) = receipt.batch ∷ []

  -- the moments of what the log has, and of the batch that isn't in it yet
  abbrev pub moments_in : Ghosts D → List Moment → Stage D L → List Moment
  moments_in disk moments Idle = moments
  moments_in disk moments (Held receipt ordered made) = moments ++ moment_of disk receipt.at ∷ []
  moments_in disk moments (Logged receipt next) = moments
  moments_in disk moments (Queued receipt next) = moments

  -- what the writer has still to show
  abbrev pub waiting : Stage D L → List News
  waiting Idle = []
  waiting (Held receipt ordered made) = []
  waiting (Logged receipt next) = []
  waiting (Queued receipt next) = news_of receipt.batch next ∷ []

  -- what the log has beyond what is shown is the batch, and one that isn't in the log yet is the next part of the order
  abbrev pub IsLogged : List (List Taken) → List (List Taken) → Stage D L → Type 0
  IsLogged log told Idle = log ≡ told
  IsLogged log told (Held receipt ordered made) = (log ≡ told) × IsNext (commands_of told) receipt.batch (takens ordered)
  IsLogged log told (Logged receipt next) = (log ≡ next) × (next ≡ told ++ receipt.batch ∷ [])
  IsLogged log told (Queued receipt next) = (log ≡ next) × (next ≡ told ++ receipt.batch ∷ [])

  -- the documents beside the first commands of a batch that was given are those that these leave
  abbrev pub IsGiven : State → List (List Taken) → Stage D L → Type 0
  IsGiven start told Idle = Unit {0}
  IsGiven start told (Held receipt ordered made) = AreMade (fold start (commands_of told)) receipt.batch made.items
  IsGiven start told (Logged receipt next) = Unit {0}
  IsGiven start told (Queued receipt next) = Unit {0}

  -- and when its commit ended the store held what it makes of what is published
  abbrev pub IsTimed : Ghosts D → State → List (List Taken) → Stage D L → Type 0
  IsTimed disk start told Idle = Unit {0}
  IsTimed disk start told (Held receipt ordered made) = IsMomentOf (fold start (commands_of (told ++ receipt.batch ∷ []))) (moment_of disk receipt.at)
  IsTimed disk start told (Logged receipt next) = Unit {0}
  IsTimed disk start told (Queued receipt next) = Unit {0}
