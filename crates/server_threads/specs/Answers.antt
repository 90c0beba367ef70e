-- What stands of what a desk at a hub answered.
use Rattle.std.specs.Prelude.{◌≡◌, ◌⊎◌, ℕ, ◌+◌, List, [], ◌∷◌, ◌++◌, false, Ok, Err}
use mathlib.Core.List.{IsPrefix}
use Rattle.refusal.specs.declared.Refusal.{Refusal}
use Rattle.refusal.specs.declared.Refusal.TheVariants.{NoMemory, StoreFailed}
use Rattle.revision.specs.Command as commands
use Rattle.revision.specs.Command.{Command}
use Rattle.revision.specs.State.{State, fold}
use Rattle.revision.specs.Acceptance.{Takes, Repeats, Refuses, answer}
use Rattle.recovery.specs.Found.{FoundAs}
use Rattle.session.specs.Exchange.{Exchange, Answered, Shown}
use Rattle.session.specs.declared.reply.Reply.{Reply}
use Rattle.session.specs.declared.reply.Reply.TheVariants.{Taken, Again}
use Rattle.hub_desk.specs.AtHub.{Desk}
use Rattle.hub_desk.specs.Standing.{AllStand}

-- a desk at its beginning: it was told of nothing, and its seat has counted nothing and found nothing of the order
abbrev pub first_desk : Desk
first_desk = record { told = []; shown = []; counted = 0; stopped = false; found = [] }

-- A command has the place in an order that its reply says. One that was taken is there, as what the rule of acceptance takes for it after
-- the commands before it, with the reply's revision; of a retry the rule says just this after some prefix of the order.
abbrev pub HasPlace : State → List commands.Taken → Command → Reply → Type 0
HasPlace start order command (Taken revision) =
    (before : List commands.Taken) × (taken : commands.Taken) × IsPrefix (before ++ taken ∷ []) order
    × (answer (fold start before) command ≡ Takes taken) × (taken.revision ≡ revision)
HasPlace start order command (Again revision) =
    (before : List commands.Taken) × IsPrefix before order × (answer (fold start before) command ≡ Repeats revision)

-- each command that was answered as taken, or as a retry, has its place
abbrev pub AllHavePlaces : State → List commands.Taken → List Exchange → Type 0
AllHavePlaces start order [] = Unit {0}
AllHavePlaces start order (Answered command (Ok reply) ∷ others) = HasPlace start order command reply × AllHavePlaces start order others
AllHavePlaces start order (Answered command (Err refusal) ∷ others) = AllHavePlaces start order others
AllHavePlaces start order (Shown shown ∷ others) = AllHavePlaces start order others

-- A command was refused as the rule of acceptance refuses it after some prefix of the order; or out of memory, or since the store has failed.
abbrev pub HasCause : State → List commands.Taken → Command → Refusal → Type 0
HasCause start order command refusal =
    (refusal ≡ NoMemory) ⊎ (refusal ≡ StoreFailed)
    ⊎ ((before : List commands.Taken) × IsPrefix before order × (answer (fold start before) command ≡ Refuses refusal))

-- each command that was refused has its cause
abbrev pub AllHaveCauses : State → List commands.Taken → List Exchange → Type 0
AllHaveCauses start order [] = Unit {0}
AllHaveCauses start order (Answered command (Ok reply) ∷ others) = AllHaveCauses start order others
AllHaveCauses start order (Answered command (Err refusal) ∷ others) = HasCause start order command refusal × AllHaveCauses start order others
AllHaveCauses start order (Shown shown ∷ others) = AllHaveCauses start order others

-- A seat counts each command that was answered as taken. Of those that were answered that the store has failed it may count some, which
-- were ordered then; and it counts nothing else.
abbrev pub Counts : ℕ → List Exchange → ℕ → Type 0
Counts old [] new = new ≡ old
Counts old (Answered command (Ok (Taken revision)) ∷ others) new = Counts (old + 1) others new
Counts old (Answered command (Ok (Again revision)) ∷ others) new = Counts old others new
Counts old (Answered command (Err refusal) ∷ others) new = Counts old others new ⊎ ((refusal ≡ StoreFailed) × Counts (old + 1) others new)
Counts old (Shown shown ∷ others) new = Counts old others new

-- The content represents a state in which all that was acknowledged stands.
abbrev pub HoldsAll : List Exchange → List ℕ → Type 0
HoldsAll answered content = (state : State) × FoundAs content state × AllStand state answered
