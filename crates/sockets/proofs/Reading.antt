-- Pieces of a connection, as they are read.
use Rattle.std.proofs.Common.{◌≡◌, ◌∙◌, ◌++◌, ◌≤◌, ◌+◌, ◌*◌, ℕ, List, [], ◌∷◌, Option, None, Result, Ok, Err, OnOk, OnErr, sym, ap, subst, arith, append_assoc, append-nil}
use Rattle.std.specs.Prelude.{IfOk}
use Rattle.session.specs.Session.{Session}
use Rattle.session.specs.Exchange.{Exchange}
use Rattle.serving.specs.Turns.{beginning, InputPiece, GivesAll, EndsBehind, AnswersTaken, StopsAfter}
use Rattle.serving.proofs.CallerLemmas.{answers_nothing, taken_so, stops_so}
use Rattle.sockets.specs.declared.parting.Parting.{Parting}
use Rattle.sockets.specs.declared.patience.Patience.{Patience}
use Rattle.sockets.specs.declared.raw.HostReader.{HostReader}
use Rattle.sockets.specs.declared.reads.ReadPieces.{ReadPieces}
use Rattle.sockets.specs.Socket.{pieces_of, waits_of}
use Rattle.sockets.specs.Host.{number_read, reads_of}
use Rattle.sockets.specs.Ends.{EndsBetween}
use Rattle.sockets.specs.Conversation.{Converses, IsAnswered, StopsConversing, WereRead}
use Rattle.sockets.specs.Reads.{EndsReads, GivesRead, IsPatient, hall_of, not_noted}

abbrev pub Ends : ReadPieces → HostReader → Parting → ReadPieces → HostReader → Type 0
Ends pieces reader why after behind = EndsReads pieces reader why behind

-- what was given was read, of one connection in one hall, and it was patient
reads_given : (pieces : List InputPiece) (p q : ReadPieces) (i j : HostReader) → GivesAll GivesRead p i pieces q j
    → WereRead (reads_of i) (reads_of j) pieces × (number_read j ≡ number_read i) × (hall_of q ≡ hall_of p) × (IsPatient p i → IsPatient q j)
reads_given [] p q i j (same, input) = (
  ap (λ (x : HostReader). pieces_of (reads_of x)) input ∙ sym (append-nil (pieces_of (reads_of i))),
  ap number_read input,
  ap hall_of same,
  λ patient. subst (λ (x : ReadPieces). IsPatient x j) (sym same) (subst (λ (x : HostReader). IsPatient p x) (sym input) patient),
)
reads_given (piece ∷ pieces) p q i j (next, behind, given, rest) =
    let r = reads_given pieces next q behind j rest in (
      r.0 ∙ (ap (λ (l : List InputPiece). l ++ pieces) given.read ∙ append_assoc (pieces_of (reads_of i)) (piece ∷ []) pieces),
      r.1 ∙ given.same,
      r.2 ∙ given.hall,
      λ patient. r.3 (given.patient patient),
    )

-- and then the input ended
reads_ended : (why : Parting) (pieces : List InputPiece) (p q : ReadPieces) (i j : HostReader) → EndsBehind GivesRead Ends why p i q j pieces
    → WereRead (reads_of i) (reads_of j) pieces × (number_read j ≡ number_read i) × (IsPatient p i → EndsBetween (hall_of p) why (reads_of j))
reads_ended why pieces p q i j (last, rest, all, ended) =
    let r = reads_given pieces p last i rest all in (
      ended.none ∙ r.0,
      ended.same ∙ r.1,
      λ patient. subst (λ (hall : ℕ). EndsBetween hall why (reads_of j)) r.2 (ended.ends (r.3 patient)),
    )

module _ {D E : Type 0} (does : D → Exchange → D → Type 0) (p q : ReadPieces) (i j : HostReader) (d e : D) (o u : Option (List ℕ))
    (old : Session) (begins : old ≡ beginning) where
  -- all that was read is answered
  pub answered_to_end : (r : Result Parting E) (new : Session) → IfOk r (λ why. AnswersTaken does (EndsBehind GivesRead Ends why p i q j) old new d e o u)
      → OnOk r (IsAnswered does d e (reads_of i) (reads_of j) o u)
  answered_to_end (Ok why) new answers = (
    new,
    subst (λ (s : Session). Converses does s new d e (reads_of i) (reads_of j) o u) begins
        (taken_so does (EndsBehind GivesRead Ends why p i q j) (WereRead (reads_of i) (reads_of j)) (λ pieces all. (reads_ended why pieces p q i j all).0)
        old new d e o u answers),
  )
  answered_to_end (Err x) new answers = tt

  -- it ended for a cause
  pub ended_so : (hall : ℕ) → hall_of p ≡ hall → IsPatient p i → (r : Result Parting E) (new : Session)
      → IfOk r (λ why. AnswersTaken does (EndsBehind GivesRead Ends why p i q j) old new d e o u) → IfOk r (λ why. EndsBetween hall why (reads_of j))
  ended_so hall named patient (Ok why) new answers =
      subst (λ (h : ℕ). EndsBetween h why (reads_of j)) named ((reads_ended why answers.pieces p q i j answers.taken).2 patient)
  ended_so hall named patient (Err x) new answers = tt

  -- a write failed before that
  pub stopped_so : (r : Result Parting E) → OnErr r (StopsAfter does (λ given. GivesAll GivesRead p i given q j) old d e o u)
      → OnErr r (StopsConversing does beginning d e (reads_of i) (reads_of j) o u)
  stopped_so (Ok why) stops = tt
  stopped_so (Err x) stops =
      subst (λ (s : Session). StopsConversing does s d e (reads_of i) (reads_of j) o u) begins
      (stops_so does (λ given. GivesAll GivesRead p i given q j) (WereRead (reads_of i) (reads_of j)) (λ pieces all. (reads_given pieces p q i j all).0) old d e o u stops)

  -- it was one connection
  pub one_connection : (r : Result Parting E) (new : Session) → IfOk r (λ why. AnswersTaken does (EndsBehind GivesRead Ends why p i q j) old new d e o u)
      → OnErr r (StopsAfter does (λ given. GivesAll GivesRead p i given q j) old d e o u) → number_read j ≡ number_read i
  one_connection (Ok why) new answers stops = (reads_ended why answers.pieces p q i j answers.taken).1
  one_connection (Err x) new answers stops = (reads_given (stops.front ++ stops.piece ∷ []) p q i j stops.taken).1

-- nothing was read, and nothing answered
pub answered_nothing : {D : Type 0} (does : D → Exchange → D → Type 0) (d : D) (reader : HostReader) (o : Option (List ℕ))
    → IsAnswered does d d (reads_of reader) (reads_of reader) o o
answered_nothing does d reader o =
    (beginning, record { pieces = []; taken = sym (append-nil (pieces_of (reads_of reader))); answers = answers_nothing does beginning d o })

-- nothing is to be noted before the first read
pub patient_yet : (pieces : ReadPieces) (reader : HostReader) (seconds : ℕ) → pieces.patience ≡ record { limit = seconds * 10; waited = 0 } → pieces.count ≡ None
    → IsPatient pieces reader
patient_yet pieces reader seconds new unread = (
  subst (λ (c : Option ℕ). pieces.patience.waited + not_noted c ≤ waits_of (reads_of reader)) (sym unread) (omega (arith, ap (λ (p : Patience). p.waited) new)),
  λ some. omega (arith, some, ap (λ (p : Patience). p.limit) new),
)
