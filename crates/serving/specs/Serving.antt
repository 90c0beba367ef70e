-- Serving a session over a pair of streams.
use Rattle.std.specs.Prelude.{◌≡◌, ◌⊎◌, ℕ, List, [], ◌∷◌, ◌++◌, Bool, true, false, Option, Result, OnOk, OnErr}
use Rattle.std.specs.Io.KnownBytes.{Consumes, IsAtEnd}
use Rattle.session.specs.Session.{Session}
use Rattle.session.specs.Exchange.{Exchange}
use Rattle.session.specs.Line.{HasNoEnd}
use Rattle.serving.specs.declared.input.InputError.{InputError}
use Rattle.serving.specs.Turns.{InputPiece, AnswersTaken, StopsAfter}
pub use Rattle.serving.specs.Turns.{beginning}

-- text within a line, behind which the input isn't cut; or text with the line end behind it, where it is
abbrev pub IsOfLine : InputPiece → Type 0
IsOfLine piece =
    (HasNoEnd piece.bytes × (piece.is_cut ≡ false)) ⊎ ((text : List ℕ) × HasNoEnd text × (piece.bytes ≡ text ++ 10 ∷ []) × (piece.is_cut ≡ true))

abbrev pub AreOfLines : List InputPiece → Type 0
AreOfLines [] = Unit {0}
AreOfLines (piece ∷ pieces) = IsOfLine piece × AreOfLines pieces

-- the bytes of pieces, in order
abbrev pub bytes_in : List InputPiece → List ℕ
bytes_in [] = []
bytes_in (piece ∷ pieces) = piece.bytes ++ bytes_in pieces

-- Where bytes were left of an input, these were read, a piece of a line was given, and these are left.
pub record GivesOfLine (left : List ℕ) (input : Option (List ℕ)) (piece : InputPiece) (left' : List ℕ) (input' : Option (List ℕ)) : Type 0 where
  pub read : List ℕ
  pub consumed : Consumes input input' read
  pub whole : left ++ read ≡ piece.bytes ++ left'
  pub of_line : IsOfLine piece

-- No byte was left and none was read: the input is at its end and no read has failed, or one has.
pub record EndsLines (left : List ℕ) (input : Option (List ℕ)) (why : Result (Unit {0}) InputError) (input' : Option (List ℕ)) (has_failed : Bool) : Type 0 where
  pub none : left ≡ []
  pub consumed : Consumes input input' []
  pub at_end : OnOk why (IsAtEnd input')
  pub works : OnOk why (has_failed ≡ false)
  pub failed : OnErr why (has_failed ≡ true)

-- pieces of lines were read, and these bytes behind them
abbrev pub AreRead : (behind : List ℕ) → (input input' : Option (List ℕ)) → List InputPiece → Type 0
AreRead behind input input' pieces = AreOfLines pieces × Consumes input input' (bytes_in pieces ++ behind)

module _ {D : Type 0} (does : D → Exchange → D → Type 0) where
  -- Pieces of lines were read and answered.
  abbrev pub Serves : (old new : Session) (desk desk' : D) (input input' output output' : Option (List ℕ)) → Type 0
  Serves old new desk desk' input input' output output' = AnswersTaken does (AreRead [] input input') old new desk desk' output output'

  -- A whole session was served, from its beginning to the end of the input.
  pub record IsServed (desk desk' : D) (input input' output output' : Option (List ℕ)) : Type 0 where
    pub last : Session
    pub served : Serves beginning last desk desk' input input' output output'
    pub at_end : IsAtEnd input'

  -- All that is due of what was taken of the input is written.
  abbrev pub IsServedSoFar : D → D → (input input' output output' : Option (List ℕ)) → Type 0
  IsServedSoFar desk desk' input input' output output' = (last : Session) × Serves beginning last desk desk' input input' output output'

  -- A stream failed behind all that was read, which is answered; or a write did in the turn of a piece of a line. Bytes may have been read
  -- behind that piece, and nothing was asked for them.
  abbrev pub StopsServing : (old : Session) (desk desk' : D) (input input' output output' : Option (List ℕ)) → Type 0
  StopsServing old desk desk' input input' output output' =
      ((new : Session) × Serves old new desk desk' input input' output output')
      ⊎ ((behind : List ℕ) × StopsAfter does (AreRead behind input input') old desk desk' output output')
