-- A batch that is to be shown.
use Rattle.std.specs.Prelude.{◌≡◌, List, [], ◌∷◌, ◌++◌}
use Rattle.delta.specs.Element.{Element}
use Rattle.recovery.specs.Found.{commands_of}
use Rattle.revision.specs.Command.{Taken}
use Rattle.revision.specs.Made.{AreMade}
use Rattle.revision.specs.State.{State, fold}

-- the batch, and what is published with it
pub record News : Type 0 where
  pub batch : List Taken
  pub published : List (List Taken)

-- A batch is published after others, and the documents beside its first commands are those that these leave.
pub record GoesOn (start : State) (batch : List Taken) (documents : List (List Element)) (before after : List (List Taken)) : Type 0 where
  pub next : after ≡ before ++ batch ∷ []
  pub made : AreMade (fold start (commands_of before)) batch documents
