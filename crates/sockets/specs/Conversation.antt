-- A conversation: a session over a connection, whose input is cut behind each read.
use Rattle.std.specs.Prelude.{◌≡◌, ℕ, List, ◌++◌, Option}
use Rattle.session.specs.Session.{Session}
use Rattle.session.specs.Exchange.{Exchange}
use Rattle.serving.specs.Turns.{beginning, InputPiece, AnswersTaken, StopsAfter}
use Rattle.sockets.specs.Socket.{Event, pieces_of}

-- these pieces were read, one after another
abbrev pub WereRead : (reads reads' : List Event) → List InputPiece → Type 0
WereRead reads reads' pieces = pieces_of reads' ≡ pieces_of reads ++ pieces

module _ {D : Type 0} (does : D → Exchange → D → Type 0) where
  -- Pieces were read, and answered.
  abbrev pub Converses : (old new : Session) (desk desk' : D) (reads reads' : List Event) (output output' : Option (List ℕ)) → Type 0
  Converses old new desk desk' reads reads' output output' = AnswersTaken does (WereRead reads reads') old new desk desk' output output'

  -- Pieces were read, and a write failed in the turn of the last one.
  abbrev pub StopsConversing : (old : Session) (desk desk' : D) (reads reads' : List Event) (output output' : Option (List ℕ)) → Type 0
  StopsConversing old desk desk' reads reads' output output' = StopsAfter does (WereRead reads reads') old desk desk' output output'

  -- a whole conversation, from a session's beginning
  abbrev pub IsAnswered : D → D → (reads reads' : List Event) (output output' : Option (List ℕ)) → Type 0
  IsAnswered desk desk' reads reads' output output' = (last : Session) × Converses beginning last desk desk' reads reads' output output'
