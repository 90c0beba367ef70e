-- Pieces that are answered, one after another.
use Rattle.std.proofs.Common.{◌∙◌, ◌++◌, ℕ, true, false, List, [], ◌∷◌, Option, refl, sym, ap, subst, append_assoc}
use Rattle.std.specs.Prelude.{Bool, Result, Ok, Err, OnOk}
use Rattle.std.specs.Io.KnownBytes.{Keeps}
use Rattle.std.proofs.KnownBytes.{Appends-nil, Appends-kept}
use Rattle.session.specs.Session.{Session}
use Rattle.session.specs.Exchange.{Exchange}
use Rattle.session.specs.Replies.{Asks, Feeds}
use Rattle.session.specs.Calls.{Call, Fed, OfPiece, Calls}
use Rattle.session.proofs.CallerLemmas.{asks-joined, appends-both, calls-joined, calls-one}
use Rattle.serving.specs.Turns.{InputPiece, AreTurns, GivesAll, Answers, TellsWhere, StopsIn, AnswersTaken, StopsAfter}
pub use Rattle.session.proofs.CallerLemmas.{on_err}

-- what holds anyhow holds of a call that succeeds
pub on_ok_too : {T E : Type 0} {P : Type 0} (r : Result T E) → P → OnOk r P
on_ok_too (Ok x) h = h
on_ok_too (Err e) h = tt

-- turns, and then others
turns_joined : (front back : List InputPiece) (a b : List Call) → AreTurns front a → AreTurns back b → AreTurns (front ++ back) (a ++ b)
turns_joined [] back a b none second = subst (λ (l : List Call). AreTurns back (l ++ b)) (sym none) second
turns_joined (piece ∷ pieces) back a b (news, others, for_news, rest, is) second = (
  news,
  others ++ b,
  for_news,
  turns_joined pieces back others b rest second,
  ap (λ (l : List Call). l ++ b) is ∙ ap (λ (l : List Call). Fed piece.bytes ∷ l) (append_assoc news others b),
)

-- one piece more is given
pub gives_more : {P I : Type 0} (gives : P → I → InputPiece → P → I → Type 0) (pieces : List InputPiece) (piece : InputPiece) (p q r : P) (i j k : I)
    → GivesAll gives p i pieces q j → gives q j piece r k → GivesAll gives p i (pieces ++ piece ∷ []) r k
gives_more {P} {I} gives [] piece p q r i j k (same, input) one =
    (r, k, subst (λ (x : P). gives x i piece r k) same (subst (λ (x : I). gives q x piece r k) input one), (refl, refl))
gives_more gives (first ∷ others) piece p q r i j k (next, behind, given, rest) one =
    (next, behind, given, gives_more gives others piece next q r behind j k rest one)

module _ {D : Type 0} (does : D → Exchange → D → Type 0) where
  -- what comes of no byte
  pub feeds_nothing : (s : Session) (d : D) (o : Option (List ℕ)) → Feeds does s [] s d d o o
  feeds_nothing s d o = record { asked = []; text = []; replies = (refl, refl, refl); asks = refl; written = Appends-nil o }

  pub answers_nothing : (s : Session) (d : D) (o : Option (List ℕ)) → Answers does s [] s d d o o
  answers_nothing s d o = record { calls = []; turns = refl; asked = []; text = []; comes = (refl, refl, refl); asks = refl; written = Appends-nil o }

  pub answers_joined : (front back : List InputPiece) (old mid new : Session) (d e f : D) (o p q : Option (List ℕ))
      → Answers does old front mid d e o p → Answers does mid back new e f p q → Answers does old (front ++ back) new d f o q
  answers_joined front back old mid new d e f o p q first second = record {
    calls = first.calls ++ second.calls;
    turns = turns_joined front back first.calls second.calls first.turns second.turns;
    asked = first.asked ++ second.asked;
    text = first.text ++ second.text;
    comes = calls-joined first.calls second.calls old mid new first.asked second.asked first.text second.text first.comes second.comes;
    asks = asks-joined does first.asked second.asked d e f first.asks second.asks;
    written = appends-both o p q first.text second.text first.written second.written;
  }

  -- One turn: a piece was fed, the news were told where the input is cut, and all of it was sent on or not.
  pub answers_turn : (bytes : List ℕ) (is_cut : Bool) (old mid new : Session) (d e f : D) (o p q r : Option (List ℕ)) → Feeds does old bytes mid d e o p
      → TellsWhere does is_cut mid new e f p q → Keeps q r → Answers does old (record { bytes = bytes; is_cut = is_cut } ∷ []) new d f o r
  answers_turn bytes true old mid new d e f o p q r fed (call, for_news, told) kept = record {
    calls = Fed bytes ∷ call ∷ [];
    turns = (call ∷ [], [], (call, for_news, refl), refl, refl);
    asked = fed.asked ++ told.asked;
    text = fed.text ++ told.text;
    comes = calls-joined (Fed bytes ∷ []) (call ∷ []) old mid new fed.asked told.asked fed.text told.text
        (calls-one old mid (Fed bytes) fed.asked fed.text (OfPiece bytes fed.asked mid fed.text fed.replies))
        (calls-one mid new call told.asked told.text told.comes);
    asks = asks-joined does fed.asked told.asked d e f fed.asks told.asks;
    written = Appends-kept o q r (fed.text ++ told.text) (appends-both o p q fed.text told.text fed.written told.written) kept;
  }
  answers_turn bytes false old mid new d e f o p q r fed (same, desk, unsaid) kept = record {
    calls = Fed bytes ∷ [];
    turns = ([], [], refl, refl, refl);
    asked = fed.asked;
    text = fed.text;
    comes = subst (λ (s : Session). Calls old (Fed bytes ∷ []) fed.asked s fed.text) (sym same)
        (calls-one old mid (Fed bytes) fed.asked fed.text (OfPiece bytes fed.asked mid fed.text fed.replies));
    asks = subst (λ (x : D). Asks does d fed.asked x) (sym desk) fed.asks;
    written = Appends-kept o q r fed.text (Appends-kept o p q fed.text fed.written unsaid) kept;
  }

  -- what is sent on or not
  pub taken_kept : (T : List InputPiece → Type 0) (old new : Session) (d e : D) (o p q : Option (List ℕ)) → AnswersTaken does T old new d e o p → Keeps p q
      → AnswersTaken does T old new d e o q
  taken_kept T old new d e o p q taken kept = record {
    pieces = taken.pieces;
    taken = taken.taken;
    answers = record {
      calls = taken.answers.calls;
      turns = taken.answers.turns;
      asked = taken.answers.asked;
      text = taken.answers.text;
      comes = taken.answers.comes;
      asks = taken.answers.asks;
      written = Appends-kept o p q taken.answers.text taken.answers.written kept;
    };
  }

  -- what is said of pieces in other words
  module _ (T U : List InputPiece → Type 0) (more : (pieces : List InputPiece) → T pieces → U pieces) where
    pub taken_so : (old new : Session) (d e : D) (o p : Option (List ℕ)) → AnswersTaken does T old new d e o p → AnswersTaken does U old new d e o p
    taken_so old new d e o p so = record { pieces = so.pieces; taken = more so.pieces so.taken; answers = so.answers }

    pub stops_so : (old : Session) (d e : D) (o p : Option (List ℕ)) → StopsAfter does T old d e o p → StopsAfter does U old d e o p
    stops_so old d e o p so = record {
      front = so.front;
      piece = so.piece;
      taken = more (so.front ++ so.piece ∷ []) so.taken;
      mid = so.mid;
      desk_mid = so.desk_mid;
      output_mid = so.output_mid;
      answers = so.answers;
      stops = so.stops;
    }

  module _ {P I : Type 0} (gives : P → I → InputPiece → P → I → Type 0) where
    -- nothing was given yet
    pub taken_yet : (s : Session) (d : D) (p : P) (i : I) (o : Option (List ℕ)) → AnswersTaken does (λ given. GivesAll gives p i given p i) s s d d o o
    taken_yet s d p i o = record { pieces = []; taken = (refl, refl); answers = answers_nothing s d o }

    module _ (old mid : Session) (d e : D) (p q : P) (i j : I) (o u : Option (List ℕ))
        (taken : AnswersTaken does (λ given. GivesAll gives p i given q j) old mid d e o u) where
      -- a further piece is answered, or a write fails in its turn
      pub taken_more : (piece : InputPiece) (new : Session) (f : D) (r : P) (k : I) (v : Option (List ℕ)) → gives q j piece r k
          → Answers does mid (piece ∷ []) new e f u v → AnswersTaken does (λ given. GivesAll gives p i given r k) old new d f o v
      taken_more piece new f r k v one answers = record {
        pieces = taken.pieces ++ piece ∷ [];
        taken = gives_more gives taken.pieces piece p q r i j k taken.taken one;
        answers = answers_joined taken.pieces (piece ∷ []) old mid new d e f o u v taken.answers answers;
      }

      pub stops_in : (piece : InputPiece) (f : D) (r : P) (k : I) (v : Option (List ℕ)) → gives q j piece r k → StopsIn does mid e u piece f v
          → StopsAfter does (λ given. GivesAll gives p i given r k) old d f o v
      stops_in piece f r k v one stops = record {
        front = taken.pieces;
        piece = piece;
        taken = gives_more gives taken.pieces piece p q r i j k taken.taken one;
        mid = mid;
        desk_mid = e;
        output_mid = u;
        answers = taken.answers;
        stops = stops;
      }
