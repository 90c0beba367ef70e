-- What a revision that is held is made of.
use Rattle.std.specs.Prelude.{◌≡◌, ℕ, ◌-◌, ◌≤◌, List, take, drop}
use Rattle.delta.specs.Element.{Element}
use Rattle.delta.specs.Operation.{Operation}
use Rattle.compose.specs.Many.{applied}
use Rattle.revision.specs.Past.{Past, StandInTurn, content_at, deltas_above}

-- What stands at a revision that is held and is no later, the base, and the deltas of the revisions after it up to this one.
pub record IsReplay (past : Past) (revision : ℕ) (units : List Element) (deltas : List (List Operation)) : Type 0 where
  pub base : ℕ
  pub held : past.floor ≤ base
  pub below : base ≤ revision
  pub content : units ≡ (content_at past base).units
  pub between : deltas ≡ take (revision - base) (deltas_above past base)

-- Of deltas that stand in turn so do the first, and those that are left, on the document after the first.
abbrev pub PartsStand : Type 0
PartsStand = (count : ℕ) (units : List Element) (deltas : List (List Operation)) → StandInTurn units deltas
    → StandInTurn units (take count deltas) × StandInTurn (applied units (take count deltas)) (drop count deltas)
