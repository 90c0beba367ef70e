-- What comes of a command that is submitted.
use Rattle.std.specs.Prelude.{◌≡◌, ◌⊎◌, true, Some, Result, IfOk, IfErr, OnOk, OnErr}
use Rattle.refusal.specs.declared.Refusal.{Refusal}
use Rattle.refusal.specs.declared.Refusal.TheVariants.{NoMemory}
use Rattle.revision.specs.Command.{Command}
use Rattle.revision.specs.State.{State}
use Rattle.revision.specs.Planned.{may_want_memory}
use Rattle.revision.specs.Acceptance.{Refuses, answer}
use Rattle.world.specs.Progress.{Progress, Ticket, submitted, ticket_of}
use Rattle.world.specs.World.{Entry, entry_of}

-- A command is refused so in a state: as the rule of acceptance refuses it there, or as out of memory, and that only where the rule's answer
-- needs something that is made in memory.
pub record IsRefusedIn (state : State) (command : Command) (refusal : Refusal) : Type 0 where
  pub rule : (refusal ≡ NoMemory) ⊎ (answer state command ≡ Refuses refusal)
  pub memory : refusal ≡ NoMemory → may_want_memory command.action (answer state command) ≡ true

-- A command is answered by its ticket, and is behind the order then where it was taken; or it is refused, and nothing has changed.
pub record IsSubmitted (old : Progress Entry) (command : Command) (given : Result Ticket Refusal) (new : Progress Entry) : Type 0 where
  pub moves : OnOk given (new ≡ submitted (entry_of command) old command)
  pub ticket : IfOk given (λ ticket. Some ticket ≡ ticket_of old command)
  pub refused : IfErr given (IsRefusedIn old.state command)
  pub unchanged : OnErr given (new ≡ old)
