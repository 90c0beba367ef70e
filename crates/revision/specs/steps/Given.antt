-- A command that is to be prepared, and what is known of it.
use Rattle.std.specs.Prelude.{◌≡◌, true, IfSome}
use Rattle.revision.specs.Command.{Taken}
use Rattle.revision.specs.Made.{IsMade}
use Rattle.revision.specs.State.{State, grows}
use Rattle.revision.specs.declared.past.given.Given.{Given}
use Rattle.revision.specs.declared.past.given.Handed.{Handed}
use Rattle.revision.specs.declared.past.given.Handed.TheVariants.{Lent, Owned}

-- the command, lent or given away
abbrev pub command_of : Handed → Taken
command_of (Lent taken) = taken.now
command_of (Owned taken) = taken

-- what is said of it is true after a state: that it continues the state, and the document that it leaves
pub record IsGiven (state : State) (given : Given) : Type 0 where
  pub continues : given.continues ≡ true → grows state (command_of given.command) ≡ true
  pub made : IfSome given.made (λ document. IsMade state (command_of given.command) document.now)
