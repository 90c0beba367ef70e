-- The order of a run: the commands that were taken, each with what was taken of it.
use Rattle.std.specs.Prelude.{◌≡◌, ◌≤◌, ◌<◌, ◌^◌, List, [], ◌∷◌}
use Rattle.revision.specs.Command.{Command}
use Rattle.revision.specs.State.{State, grown}
use Rattle.revision.specs.Acceptance.{Takes, answer}
use Rattle.world.specs.World.{Entry}

-- a command has a number that one may have
abbrev pub HasNumber : Command → Type 0
HasNumber command = (1 ≤ command.number) × (command.number < 2 ^ 53)

-- A command was taken at a state, as the rule of acceptance says.
abbrev pub WasTaken : State → Entry → Type 0
WasTaken state entry = HasNumber entry.command × (answer state entry.command ≡ Takes entry.taken)

-- A legal history from a state: each command was taken at what those before it make.
abbrev pub IsLegal : State → List Entry → Type 0
IsLegal state [] = Unit {0}
IsLegal state (first ∷ others) = WasTaken state first × IsLegal (grown state first.taken) others
