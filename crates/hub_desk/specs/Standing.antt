-- When a command stands in a state.
use Rattle.std.specs.Prelude.{◌≡◌, ◌⊎◌, ◌<◌, ℕ, Some, None, IsSomeAnd, List, [], ◌∷◌, Ok, Err}
use Rattle.revision.specs.Command.{Command}
use Rattle.revision.specs.Window.{Window, revision_in}
use Rattle.revision.specs.Sources.{window_of}
use Rattle.revision.specs.State.{State, find, sources_of}
use Rattle.session.specs.Exchange.{Exchange, Answered, Shown}
use Rattle.session.specs.Reply.{rev_of}

-- In a source's window a number made this revision, or the window has it no longer, since higher numbers came.
abbrev pub Reaches : ℕ → ℕ → Window → Type 0
Reaches number revision window = (revision_in number window ≡ Some revision) ⊎ ((revision_in number window ≡ None) × (number < window.number))

-- A command stands in a state as this revision: the document of its name is there, and its number made this revision in its source's
-- window there, or is lower than the window's.
abbrev pub StandsIn : State → Command → ℕ → Type 0
StandsIn state command revision =
    IsSomeAnd (find command.name 0 state.documents) (λ found. Reaches command.number revision (window_of command.source (sources_of found.1)))

-- Each command that was acknowledged, as taken or as a retry, stands in the state as the revision of its reply.
abbrev pub AllStand : State → List Exchange → Type 0
AllStand state [] = Unit {0}
AllStand state (Answered command (Ok reply) ∷ others) = StandsIn state command (rev_of reply) × AllStand state others
AllStand state (Answered command (Err refusal) ∷ others) = AllStand state others
AllStand state (Shown shown ∷ others) = AllStand state others
