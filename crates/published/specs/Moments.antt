-- The moments at which the commits of published batches had ended.
use Rattle.std.specs.Prelude.{List, [], ◌∷◌}
use Rattle.revision.specs.Command.{Taken}
use Rattle.revision.specs.State.{State, fold}
use Rattle.recovery.specs.Moment.{Moment, IsMomentOf}

-- There is one moment for each batch, in order: at each a store held exactly what the batches up to this one make of the start, and its
-- device was synced.
abbrev pub AreMoments : State → List (List Taken) → List Moment → Type 0
AreMoments start [] [] = Unit {0}
AreMoments start [] (moment ∷ moments) = ⊥
AreMoments start (batch ∷ batches) [] = ⊥
AreMoments start (batch ∷ batches) (moment ∷ moments) = IsMomentOf (fold start batch) moment × AreMoments (fold start batch) batches moments

-- what a run has published, the oldest first, and for each batch the moment at which its commit had ended
pub record Log : Type 0 where
  pub batches : List (List Taken)
  pub moments : List Moment
