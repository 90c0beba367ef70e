-- Lines that were sent ahead: their commands are asked one after another, and then all of them are replied.
use Rattle.std.specs.Prelude.{◌≡◌, ℕ, ◌++◌, List, [], ◌∷◌, map, Option, Some, None, Result, Ok}
use Rattle.refusal.specs.declared.Refusal.{Refusal}
use Rattle.revision.specs.Command.{Command}
use Rattle.session.specs.declared.request.Request.{Request}
use Rattle.session.specs.declared.request.Request.TheVariants.{Ask}
use Rattle.session.specs.declared.sent.Sent.{Sent}
use Rattle.session.specs.Exchange.{Exchange, Answered}
use Rattle.session.specs.Session.{Session}
use Rattle.session.specs.Replies.{answer_line, IsLine, Replies, Asks, Feeds, Stops}

-- the commands that were sent ahead
abbrev pub command_of : Sent → Command
command_of sent = sent.command

abbrev pub commands_of : List Sent → List Command
commands_of sent = map command_of sent

-- what passed with the desk about them
abbrev pub exchange_of : Sent → Exchange
exchange_of sent = Answered sent.command sent.answer

abbrev pub exchanges_of : List Sent → List Exchange
exchanges_of sent = map exchange_of sent

-- their replies in order, each telling the answer of its command
abbrev pub AreReplies : List Sent → List ℕ → Type 0
AreReplies [] text = text ≡ []
AreReplies (sent ∷ others) text =
    (line : List ℕ) × (back : List ℕ) × IsLine (answer_line sent.command sent.answer) line × AreReplies others back × (text ≡ line ++ back)

-- The bytes are lines with these commands, and the beginning of a further line: whatever is answered to the commands, what comes of
-- the bytes is the replies that tell it.
abbrev pub IsSentAhead : Session → List ℕ → List Command → Session → Type 0
IsSentAhead old bytes commands new =
    (answered : List Sent) (text : List ℕ) → commands_of answered ≡ commands → AreReplies answered text
    → Replies old bytes (exchanges_of answered) new text

-- a request was put to these commands, or it wasn't
abbrev pub IsPut : Result Request Refusal → List Command → List Command → Option (Result Request Refusal) → Type 0
IsPut request old new (Some back) = (back ≡ request) × (new ≡ old)
IsPut request old new None = (command : Command) × (request ≡ Ok (Ask command)) × (new ≡ old ++ command ∷ [])

module _ {D : Type 0} (does : D → Exchange → D → Type 0) where
  -- The desk was asked for these commands, one after another, and this holds of the replies that tell its answers.
  pub record AnswersPending (commands : List Command) (desk desk' : D) (Holds : List ℕ → Type 0) : Type 0 where
    pub answered : List Sent
    pub these : commands_of answered ≡ commands
    pub asks : Asks does desk (exchanges_of answered) desk'
    pub text : List ℕ
    pub tell : AreReplies answered text
    pub holds : Holds text

  -- A session has taken a piece of its input, and the commands of the lines that were sent ahead at its end are still to be asked.
  pub record Ahead (old : Session) (piece : List ℕ) (commands : List Command) (new : Session) (desk desk' : D) (out out' : Option (List ℕ)) : Type 0 where
    pub front : List ℕ
    pub back : List ℕ
    pub whole : piece ≡ front ++ back
    pub mid : Session
    pub fed : Feeds does old front mid desk desk' out out'
    pub sent : IsSentAhead mid back commands new

  -- a further byte was taken so
  abbrev pub TakesAhead : Session → ℕ → List Command → Session → List Command → D → D → Option (List ℕ) → Option (List ℕ) → Type 0
  TakesAhead old byte commands new commands' desk desk' out out' =
      (first : Session) (piece : List ℕ) (begun : D) (clean : Option (List ℕ)) → Ahead first piece commands old begun desk clean out
      → Ahead first (piece ++ byte ∷ []) commands' new begun desk' clean out'

  -- or a write failed by then
  abbrev pub StopsAhead : Session → ℕ → List Command → Session → D → D → Option (List ℕ) → Option (List ℕ) → Type 0
  StopsAhead old byte commands new desk desk' out out' =
      (first : Session) (piece : List ℕ) (begun : D) (clean : Option (List ℕ)) → Ahead first piece commands old begun desk clean out
      → Stops does first (piece ++ byte ∷ []) new begun desk' clean out'
