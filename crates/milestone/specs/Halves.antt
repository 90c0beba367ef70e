-- The two halves of a job's deltas.
use Rattle.std.specs.Prelude.{◌≡◌, ◌/◌, ◌≤◌, ◌^◌, List, length, take, drop}
use Rattle.delta.specs.Element.{Element}
use Rattle.delta.specs.Operation.{Operation}
use Rattle.compose.specs.Many.{ComposesAll, lengths_of}
use Rattle.compose.specs.Whole.{IsWhole}
use Rattle.revision.specs.Past.{StandInTurn}
use Rattle.milestone.specs.Job.{Job}

-- What is kept of a part of a job's deltas: there are units on which they stand in turn, and their lengths keep the bound.
pub record IsPart (deltas : List (List Operation)) : Type 0 where
  pub units : List Element
  pub stand : StandInTurn units deltas
  pub lengths : lengths_of deltas ≤ 2 ^ 48

-- One delta composes a part: it has the effect of its deltas, wherever they are defined, and parts no pair where they part none.
pub record ComposesPart (one : List Operation) (deltas : List (List Operation)) : Type 0 where
  pub all : ComposesAll one deltas
  pub whole : IsWhole one deltas

-- of an odd number of deltas the second half has one more
abbrev pub first_half : List (List Operation) → List (List Operation)
first_half deltas = take (length deltas / 2) deltas

abbrev pub second_half : List (List Operation) → List (List Operation)
second_half deltas = drop (length deltas / 2) deltas

-- two parts are the first and the second half of a job, in this order
abbrev pub AreHalves : Job → List (List Operation) → List (List Operation) → Type 0
AreHalves job first second = (first ≡ first_half job.deltas) × (second ≡ second_half job.deltas)
