-- Pieces of lines, as they are read.
use Rattle.std.proofs.Common.{◌≡◌, ◌∙◌, ◌++◌, ℕ, List, [], ◌∷◌, Option, sym, ap, subst, append_assoc, append-nil}
use Rattle.std.specs.Prelude.{Bool, true, Result, Err, OnErr}
use Rattle.std.specs.Io.KnownBytes.{Consumes}
use Rattle.std.proofs.KnownBytes.{Consumes-nil, Consumes-trans}
use Rattle.session.specs.Session.{Session}
use Rattle.session.specs.Exchange.{Exchange}
use Rattle.serving.specs.declared.input.InputError.{InputError}
use Rattle.serving.specs.Turns.{InputPiece, GivesAll, EndsBehind, AnswersTaken, StopsAfter}
use Rattle.serving.specs.Serving.{AreOfLines, AreRead, bytes_in, EndsLines, GivesOfLine, Serves}
use Rattle.serving.proofs.Answering.{taken_so, stops_so}

module _ {P I : Type 0} (left : P → List ℕ) (remaining : I → Option (List ℕ)) where
  abbrev pub Given : P → I → InputPiece → P → I → Type 0
  Given p i piece q j = GivesOfLine (left p) (remaining i) piece (left q) (remaining j)

  -- what was left before and what was read are the pieces that were given, and what is left
  lines_read : (pieces : List InputPiece) (p q : P) (i j : I) → GivesAll Given p i pieces q j
      → (read : List ℕ) × AreOfLines pieces × Consumes (remaining i) (remaining j) read × (left p ++ read ≡ bytes_in pieces ++ left q)
  lines_read [] p q i j (same, input) = (
    [],
    tt,
    subst (λ (x : I). Consumes (remaining i) (remaining x) []) (sym input) (Consumes-nil (remaining i)),
    append-nil (left p) ∙ ap left (sym same),
  )
  lines_read (piece ∷ pieces) p q i j (next, behind, given, rest) =
      let r = lines_read pieces next q behind j rest in (
        given.read ++ r.0,
        (given.of_line, r.1),
        Consumes-trans (remaining i) (remaining behind) (remaining j) given.read r.0 given.consumed r.2,
        sym (append_assoc (left p) given.read r.0)
            ∙ (ap (λ (l : List ℕ). l ++ r.0) given.whole
            ∙ (append_assoc piece.bytes (left next) r.0
            ∙ (ap (λ (l : List ℕ). piece.bytes ++ l) r.3 ∙ sym (append_assoc piece.bytes (bytes_in pieces) (left q))))),
      )

  -- where nothing was left before
  pub are_read : (p q : P) (i j : I) → left p ≡ [] → (pieces : List InputPiece) → GivesAll Given p i pieces q j → AreRead (left q) (remaining i) (remaining j) pieces
  are_read p q i j none pieces all =
      let r = lines_read pieces p q i j all in
      (r.1, subst (λ (l : List ℕ). Consumes (remaining i) (remaining j) l) (ap (λ (l : List ℕ). l ++ r.0) (sym none) ∙ r.3) r.2)

  module _ (failed : I → Bool) where
    abbrev pub Ends : P → I → Result (Unit {0}) InputError → P → I → Type 0
    Ends p i why q j = EndsLines (left p) (remaining i) why (remaining j) (failed j)

    -- and nothing is left behind the last
    pub all_read : (why : Result (Unit {0}) InputError) (p q : P) (i j : I) → left p ≡ [] → (pieces : List InputPiece) → EndsBehind Given Ends why p i q j pieces
        → AreRead [] (remaining i) (remaining j) pieces
    all_read why p q i j none pieces (last, rest, all, ended) =
        let r = are_read p last i rest none pieces all in
        let whole : (bytes_in pieces ++ left last) ++ [] ≡ bytes_in pieces ++ [] =
        append-nil (bytes_in pieces ++ left last) ∙ ap (λ (l : List ℕ). bytes_in pieces ++ l) ended.none in (
          r.0,
          subst (λ (l : List ℕ). Consumes (remaining i) (remaining j) l) whole
              (Consumes-trans (remaining i) (remaining rest) (remaining j) (bytes_in pieces ++ left last) [] r.1 ended.consumed),
        )

    -- a read has failed where it ended so
    pub ended_badly : (why : Result (Unit {0}) InputError) (p q : P) (i j : I) (pieces : List InputPiece) → EndsBehind Given Ends why p i q j pieces
        → (x : InputError) → why ≡ Err x → failed j ≡ true
    ended_badly why p q i j pieces (last, rest, all, ended) x is = subst (λ (w : Result (Unit {0}) InputError). OnErr w (failed j ≡ true)) is ended.failed

    module _ {D : Type 0} (does : D → Exchange → D → Type 0) where
      -- a session was served to where its input ends
      pub serves_to_end : (why : Result (Unit {0}) InputError) (p q : P) (i j : I) (old new : Session) (d e : D) (o u : Option (List ℕ)) → left p ≡ []
          → AnswersTaken does (EndsBehind Given Ends why p i q j) old new d e o u → Serves does old new d e (remaining i) (remaining j) o u
      serves_to_end why p q i j old new d e o u none served =
          taken_so does (EndsBehind Given Ends why p i q j) (AreRead [] (remaining i) (remaining j)) (all_read why p q i j none) old new d e o u served

      -- a write failed before that
      pub stops_before_end : (p q : P) (i j : I) (old : Session) (d e : D) (o u : Option (List ℕ)) → left p ≡ []
          → StopsAfter does (λ given. GivesAll Given p i given q j) old d e o u → StopsAfter does (AreRead (left q) (remaining i) (remaining j)) old d e o u
      stops_before_end p q i j old d e o u none stops =
          stops_so does (λ given. GivesAll Given p i given q j) (AreRead (left q) (remaining i) (remaining j)) (are_read p q i j none) old d e o u stops
