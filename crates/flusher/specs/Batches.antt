-- Batches that were committed one after another, and which of them a content represents.
use Rattle.std.specs.Prelude.{◌≡◌, ◌≤◌, ◌-◌, ℕ, List, ◌++◌, length, take, drop}
use Rattle.revision.specs.Command.{Taken}
use Rattle.revision.specs.State.{State, fold}
use Rattle.recovery.specs.Found.{commands_of, FoundAs}

-- The content represents a state that agrees with the one after a prefix of these batches, which has so many
-- commands at least.
pub record IsBeginning (least : ℕ) (start : State) (batches : List (List Taken)) (content : List ℕ) : Type 0 where
  pub first : List (List Taken)
  pub more : List (List Taken)
  pub whole : first ++ more ≡ batches
  pub enough : least ≤ length (commands_of first)
  pub found : FoundAs content (fold start (commands_of first))

-- What was published is the order as far as it is settled, and what the flusher still has to publish is what is taken off beyond that.
pub record AreParts (order : List Taken) (settled taken : ℕ) (told rest : List (List Taken)) : Type 0 where
  pub published : commands_of told ≡ take settled order
  pub unpublished : commands_of rest ≡ take (taken - settled) (drop settled order)
