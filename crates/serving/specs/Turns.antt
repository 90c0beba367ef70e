-- A session over an input that comes in pieces, in turns.
use Rattle.std.specs.Prelude.{◌≡◌, ℕ, List, [], ◌∷◌, ◌++◌, Bool, true, false, Option, Some, None}
use Rattle.std.specs.Io.KnownBytes.{Appends, Keeps}
use Rattle.session.specs.Session.{Session}
use Rattle.session.specs.Exchange.{Exchange}
use Rattle.session.specs.Calls.{Call, Fed, IsForNews, Calls, TellsNews, StopsNews}
use Rattle.session.specs.Replies.{Asks, Feeds, Stops}

-- a session at its beginning
abbrev pub beginning : Session
beginning = record { line = Some []; peer = record { source = None; subscriptions = [] }; ended = false }

-- a piece of the input, and whether the input is cut behind it
pub record InputPiece : Type 0 where
  pub bytes : List ℕ
  pub is_cut : Bool

-- where the input is cut the news are told, and nowhere else
abbrev pub AreNews : Bool → List Call → Type 0
AreNews true calls = (news : Call) × IsForNews news × (calls ≡ news ∷ [])
AreNews false calls = calls ≡ []

-- Pieces are answered in turns: in each one a piece is fed, and then the news are told where the input is cut behind it.
abbrev pub AreTurns : List InputPiece → List Call → Type 0
AreTurns [] calls = calls ≡ []
AreTurns (piece ∷ pieces) calls =
    (news : List Call) × (others : List Call) × AreNews piece.is_cut news × AreTurns pieces others × (calls ≡ Fed piece.bytes ∷ (news ++ others))

module _ {P I : Type 0} (gives : P → I → InputPiece → P → I → Type 0) where
  -- these pieces were given of an input, one after another
  abbrev pub GivesAll : P → I → List InputPiece → P → I → Type 0
  GivesAll from input [] from' input' = (from' ≡ from) × (input' ≡ input)
  GivesAll from input (piece ∷ pieces) from' input' =
      (next : P) × (behind : I) × gives from input piece next behind × GivesAll next behind pieces from' input'

  -- and then it ended for a cause
  abbrev pub EndsBehind : {E : Type 0} → (P → I → E → P → I → Type 0) → E → P → I → P → I → List InputPiece → Type 0
  EndsBehind ends why from input from' input' pieces = (last : P) × (rest : I) × GivesAll from input pieces last rest × ends last rest why from' input'

module _ {D : Type 0} (does : D → Exchange → D → Type 0) where
  -- Pieces were answered: the output is the replies and the news of the turns, made with the answers of the desk.
  pub record Answers (old : Session) (pieces : List InputPiece) (new : Session) (desk desk' : D) (output output' : Option (List ℕ)) : Type 0 where
    pub calls : List Call
    pub turns : AreTurns pieces calls
    pub asked : List Exchange
    pub text : List ℕ
    pub comes : Calls old calls asked new text
    pub asks : Asks does desk asked desk'
    pub written : Appends output output' text

  -- The news are told where the input is cut, and else nothing comes of it.
  abbrev pub TellsWhere : Bool → (old new : Session) (desk desk' : D) (output output' : Option (List ℕ)) → Type 0
  TellsWhere true old new desk desk' output output' = TellsNews does old new desk desk' output output'
  TellsWhere false old new desk desk' output output' = (new ≡ old) × (desk' ≡ desk) × Keeps output output'

  -- A write failed in the turn of this piece: a prefix of the replies to it was written; or the replies, and a prefix of the news; or both,
  -- and what was held back of them wasn't sent on.
  pub data StopsIn (old : Session) (desk : D) (output : Option (List ℕ)) : InputPiece → D → Option (List ℕ) → Type 0 where
    InReplies : (piece : InputPiece) (new : Session) (desk' : D) (output' : Option (List ℕ)) → Stops does old piece.bytes new desk desk' output output'
        → StopsIn old desk output piece desk' output'
    InNews : (piece : InputPiece) (mid new : Session) (between desk' : D) (replied output' : Option (List ℕ)) → piece.is_cut ≡ true
        → Feeds does old piece.bytes mid desk between output replied → StopsNews does mid new between desk' replied output'
        → StopsIn old desk output piece desk' output'
    InSending : (piece : InputPiece) (new : Session) (desk' : D) (output' : Option (List ℕ)) → Answers old (piece ∷ []) new desk desk' output output'
        → StopsIn old desk output piece desk' output'

  module _ (Taken : List InputPiece → Type 0) where
    -- Pieces that were taken so were answered.
    pub record AnswersTaken (old new : Session) (desk desk' : D) (output output' : Option (List ℕ)) : Type 0 where
      pub pieces : List InputPiece
      pub taken : Taken pieces
      pub answers : Answers old pieces new desk desk' output output'

    -- Pieces were taken so, and a write failed: the replies and the news of all turns before were written, and it failed in the turn of the
    -- last piece. Nothing was asked after that.
    pub record StopsAfter (old : Session) (desk desk' : D) (output output' : Option (List ℕ)) : Type 0 where
      pub front : List InputPiece
      pub piece : InputPiece
      pub taken : Taken (front ++ piece ∷ [])
      pub mid : Session
      pub desk_mid : D
      pub output_mid : Option (List ℕ)
      pub answers : Answers old front mid desk desk_mid output output_mid
      pub stops : StopsIn mid desk_mid output_mid piece desk' output'
