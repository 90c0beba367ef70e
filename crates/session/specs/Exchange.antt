-- What passes between a session and its desk.
use Rattle.std.specs.Prelude.{◌≡◌, List, [], ◌∷◌, Option, Some, None, Result, Ok, Err}
use Rattle.refusal.specs.declared.Refusal.{Refusal}
use Rattle.refusal.specs.declared.Refusal.TheVariants.{StoreFailed}
use Rattle.revision.specs.Command.{Command}
use Rattle.revision.specs.State.{State}
use Rattle.session.specs.declared.reply.Reply.{Reply}

pub data Exchange : Type 0 where
  -- a command, and what the desk answered to it
  Answered : Command → Result Reply Refusal → Exchange
  -- the state that the desk showed, or none where it could show none
  Shown : Option State → Exchange

-- nothing passed but commands with their answers
abbrev pub AreAnswered : List Exchange → Type 0
AreAnswered [] = Unit {0}
AreAnswered (Answered command answer ∷ others) = AreAnswered others
AreAnswered (Shown shown ∷ others) = ⊥

-- what is read of the state that is shown, or StoreFailed where none is
abbrev pub IsReadOf : {X : Type 0} → (State → X → Type 0) → Option State → Result X Refusal → Type 0
IsReadOf reads (Some state) (Ok read) = reads state read
IsReadOf reads (Some state) (Err refusal) = ⊥
IsReadOf reads None (Ok read) = ⊥
IsReadOf reads None (Err refusal) = refusal ≡ StoreFailed
