-- What serving sessions over connections leaves of their desks.
use Rattle.std.specs.Prelude.{ℕ, List, [], ◌∷◌}
use Rattle.revision.specs.State.{State}
use Rattle.hub_desk.specs.AtHub.{Desk, PassesAtHub}
use Rattle.sockets.specs.declared.raw.Visit.{Visit}
use Rattle.sockets.specs.Desks.{ServesVisits}
use Rattle.server_threads.specs.Answers.{first_desk}

-- Each desk of a hall has served its visits, from its beginning on: it was asked just what their conversations ask, one after another. A desk
-- behind all lists has served nobody.
abbrev pub EachServes : State → ℕ → List (List Visit) → List Desk → Type 0
EachServes start hall [] [] = Unit {0}
EachServes start hall [] (desk ∷ desks) = ServesVisits (PassesAtHub start) hall [] first_desk desk × EachServes start hall [] desks
EachServes start hall (visits ∷ others) [] = ⊥
EachServes start hall (visits ∷ others) (desk ∷ desks) = ServesVisits (PassesAtHub start) hall visits first_desk desk × EachServes start hall others desks

-- in some one hall
abbrev pub EachHasServed : State → List (List Visit) → List Desk → Type 0
EachHasServed start visits desks = (hall : ℕ) × EachServes start hall visits desks
