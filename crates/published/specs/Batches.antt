-- What was published: batches, the oldest first.
use Rattle.std.specs.Prelude.{◌≡◌, ◌⊎◌, ◌<◌, Bool, MatchBool, List, length}
use mathlib.Core.List.{IsPrefix}
use Rattle.revision.specs.Command.{Taken}

-- this list is a prefix of the other one, and shorter
abbrev pub IsShorter : List (List Taken) → List (List Taken) → Type 0
IsShorter batches others = IsPrefix batches others × (length batches < length others)

-- of two prefixes of what is published the first begins the second; or else the second one is shorter, and begins the first
abbrev pub TellsBegins : Bool → List (List Taken) → List (List Taken) → Type 0
TellsBegins begins one other = MatchBool begins (IsPrefix one other) (IsShorter other one)

-- of two prefixes of what is published this is the longer one
pub record IsTheLonger (one other longer : List (List Taken)) : Type 0 where
  pub either : (longer ≡ one) ⊎ (longer ≡ other)
  pub this : IsPrefix one longer
  pub that : IsPrefix other longer
