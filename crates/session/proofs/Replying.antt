-- What comes of a line and of a byte.
use Rattle.std.specs.Prelude.{◌==◌}
use Rattle.std.proofs.Common.{Bool, true, false, cond, length, ◌≡◌, ◌++◌, List, ℕ, [], ◌∷◌, Option, Some, None, Result, Ok, Err, IfSome, IfOk, OnOk, OnErr, refl, sym, ap, subst, ◌∙◌, inl, inr, append-nil}
use Rattle.refusal.specs.declared.Refusal.{Refusal}
use Rattle.refusal.specs.declared.Refusal.TheVariants.{NoMemory, LineTooLong}
use Rattle.revision.specs.State.{State}
use Rattle.session.specs.declared.question.Question.{Question}
use Rattle.session.specs.declared.line.Event.{Event}
use Rattle.session.specs.declared.line.Event.TheVariants.{More, TooLong, Complete}
use Rattle.session.specs.declared.request.Request.{Request}
use Rattle.session.specs.declared.request.Request.TheVariants.{Greet, Read, Subscribe, Unsubscribe}
use Rattle.optext.specs.Answer.{IsAnswer}
use Rattle.session.specs.Line.{Partial, with_byte, RunsThrough}
use Rattle.session.specs.Request.{request_of}
use Rattle.session.specs.Reply.{greeting, unsubscribed_reply, subscribed_line, line_of, refusal_line}
use Rattle.session.specs.Subscriptions.{may_follow_shown, subscribed, without_subscription}
use Rattle.session.specs.Calls.{with_subscriptions}
use Rattle.session.specs.Reads.{shown_line}
use Rattle.session.specs.Session.{Peer, Session}
use Rattle.session.specs.Exchange.{Exchange, Shown}
use Rattle.session.specs.Replies.{IsLine, text_told, IsReplied, Greeted, Asked, WasRead, WasSubscribed, NotSubscribed, WasUnsubscribed, Refused, NotTaken, TakesByte, LineContinues, LineOverflows, LineEnds, IsAtOnce, Replies, Asks}

-- an answer that is no refusal is the one that is due
pub due_ok : {T : Type 0} (due : Result T Refusal) (x : T) → IsAnswer due (Ok x) → due ≡ Ok x
due_ok due x (inl is) = sym is
due_ok due x (inr memory) = absurd cc

-- a reply whose text is due if it finds memory
pub told_line : {T E : Type 0} (bytes : T → List ℕ) (result : Result T E) (due : List ℕ) → IfOk result (λ t. bytes t ≡ due) → IsLine due (text_told bytes result)
told_line bytes (Ok t) due is = inl is
told_line bytes (Err e) due is = inr refl

-- what is due of the bytes of a line is due of the line
pub line_due : (o : Partial) (source known : Option (List ℕ)) (bytes : List ℕ) (r : Result Request Refusal) → IfSome o (λ line. bytes ≡ line)
    → known ≡ source → IsAnswer (request_of known bytes) r → IfSome o (λ line. IsAnswer (request_of source line) r)
line_due None source known bytes r is same due = tt
line_due (Some line) source known bytes r is same due = rw (is, same) at due

-- what is due of a request is due of an equal one
pub due_of : (o : Partial) (source : Option (List ℕ)) (r s : Result Request Refusal) → r ≡ s → IfSome o (λ line. IsAnswer (request_of source line) r)
    → IfSome o (λ line. IsAnswer (request_of source line) s)
due_of o source r s is due = subst (λ (a : Result Request Refusal). IfSome o (λ line. IsAnswer (request_of source line) a)) is due

module _ {D : Type 0} (does : D → Exchange → D → Type 0) where
  -- what respond owes of a line
  abbrev pub Responds : Session → Session → D → D → List ℕ → List ℕ → Type 0
  Responds old new desk desk' text line = (asked : List Exchange) × IsReplied old.peer line asked new.peer text × Asks does desk asked desk'

  pub greeted : {T E : Type 0} (bytes : T → List ℕ) (o : Partial) (old new : Session) (name : List ℕ) (result : Result T E) (desk : D) (request : Request)
      → request ≡ Greet name → IfSome o (λ line. IsAnswer (request_of old.peer.source line) (Ok request))
      → IfOk result (λ t. bytes t ≡ line_of greeting) → OnOk result (new ≡ record old { peer = record old.peer { source = Some name } }) → OnErr result (new ≡ old)
      → IfSome o (Responds old new desk desk (text_told bytes result))
  greeted bytes None old new name result desk request is due text presented unchanged = tt
  greeted bytes (Some line) old new name (Ok t) desk request is due text presented unchanged =
      ([], rw (presented, text) (Greeted name (due_ok _ _ due ∙ ap (λ (r : Request). Ok r) is)), refl)
  greeted bytes (Some line) old new name (Err e) desk request is due text presented unchanged = ([], rw unchanged NotTaken, refl)

  -- a line that is not taken, as memory ran out
  pub not_taken : {T E : Type 0} (bytes : T → List ℕ) (o : Partial) (old : Session) (result : Result T E) (desk : D)
      → IfOk result (λ t. bytes t ≡ refusal_line NoMemory) → IfSome o (Responds old old desk desk (text_told bytes result))
  not_taken bytes None old result desk text = tt
  not_taken bytes (Some line) old (Ok t) desk text = ([], rw text NotTaken, refl)
  not_taken bytes (Some line) old (Err e) desk text = ([], NotTaken, refl)

  pub was_read : (o : Partial) (old : Session) (doc : List ℕ) (question : Question) (text : List ℕ) (desk desk' : D) (request : Request)
      → request ≡ Read doc question → IfSome o (λ line. IsAnswer (request_of old.peer.source line) (Ok request))
      → ((shown : Option State) × does desk (Shown shown) desk' × IsLine (shown_line doc question shown) text)
      → IfSome o (Responds old old desk desk' text)
  was_read None old doc question text desk desk' request is due told = tt
  was_read (Some line) old doc question text desk desk' request is due told =
      (Shown told.0 ∷ [], WasRead doc question told.0 text (due_ok _ _ due ∙ ap (λ (r : Request). Ok r) is) told.2, (desk', told.1, refl))

  refused_line : {T E : Type 0} (bytes : T → List ℕ) (old : Session) (line : List ℕ) (refusal : Refusal) (result : Result T E)
      → IsAnswer (request_of old.peer.source line) (Err refusal) → IfOk result (λ t. bytes t ≡ refusal_line refusal)
      → IsReplied old.peer line [] old.peer (text_told bytes result)
  refused_line bytes old line refusal (Ok t) (inl due) text = rw text (Refused refusal (sym due))
  refused_line bytes old line refusal (Ok t) (inr memory) text =
      let is : refusal ≡ NoMemory = cc in
      rw (text, is) NotTaken
  refused_line bytes old line refusal (Err e) due text = NotTaken

  pub refused_any : {T E : Type 0} (bytes : T → List ℕ) (o : Partial) (old : Session) (refusal : Refusal) (result : Result T E) (desk : D)
      → IfSome o (λ line. IsAnswer (request_of old.peer.source line) (Err refusal)) → IfOk result (λ t. bytes t ≡ refusal_line refusal)
      → IfSome o (Responds old old desk desk (text_told bytes result))
  refused_any bytes None old refusal result desk due text = tt
  refused_any bytes (Some line) old refusal result desk due text = ([], refused_line bytes old line refusal result due text, refl)

  -- a document is followed, or it is refused, or memory is wanted
  pub followed : {T E : Type 0} (bytes : T → List ℕ) (o : Partial) (old new : Session) (doc : List ℕ) (revision : ℕ) (result : Result T E) (desk desk' : D) (request : Request)
      → request ≡ Subscribe doc revision → IfSome o (λ line. IsAnswer (request_of old.peer.source line) (Ok request))
      → ((shown : Option State) × does desk (Shown shown) desk'
      × OnOk result (new ≡ with_subscriptions old (subscribed old.peer.subscriptions doc revision (may_follow_shown doc revision shown)))
      × IfOk result (λ t. bytes t ≡ subscribed_line doc revision (may_follow_shown doc revision shown))
      × OnErr result (new ≡ old))
      → IfSome o (Responds old new desk desk' (text_told bytes result))
  followed bytes None old new doc revision result desk desk' request is due told = tt
  followed bytes (Some line) old new doc revision (Ok t) desk desk' request is due (shown, shows, noted, text, same) =
      (Shown shown ∷ [], rw (noted, text) (WasSubscribed doc revision shown (due_ok _ _ due ∙ ap (λ (r : Request). Ok r) is)), (desk', shows, refl))
  followed bytes (Some line) old new doc revision (Err e) desk desk' request is due (shown, shows, noted, text, same) =
      (Shown shown ∷ [], rw same (NotSubscribed doc revision shown (due_ok _ _ due ∙ ap (λ (r : Request). Ok r) is)), (desk', shows, refl))

  -- a document is followed no longer, or memory is wanted
  pub left : {T E : Type 0} (bytes : T → List ℕ) (o : Partial) (old new : Session) (doc : List ℕ) (result : Result T E) (desk : D) (request : Request)
      → request ≡ Unsubscribe doc → IfSome o (λ line. IsAnswer (request_of old.peer.source line) (Ok request))
      → IfOk result (λ t. bytes t ≡ line_of (unsubscribed_reply doc))
      → OnOk result (new ≡ with_subscriptions old (without_subscription old.peer.subscriptions doc)) → OnErr result (new ≡ old)
      → IfSome o (Responds old new desk desk (text_told bytes result))
  left bytes None old new doc result desk request is due text noted same = tt
  left bytes (Some line) old new doc (Ok t) desk request is due text noted same =
      ([], rw (noted, text) (WasUnsubscribed doc (due_ok _ _ due ∙ ap (λ (r : Request). Ok r) is)), refl)
  left bytes (Some line) old new doc (Err e) desk request is due text noted same = ([], rw same NotTaken, refl)

-- a complete line is not one that is dropped
pub some_line : (line : Partial) (byte : ℕ) → with_byte line byte ≡ (Complete, None) → ⊥
some_line None byte h = let e : More ≡ Complete = ap (λ (p : Event × Partial). p.0) h in cc
some_line (Some bytes) byte h = by_end (byte == 10) (length bytes == 65536) h where
  by_end : (b c : Bool) → ◌≡◌ {A = Event × Partial} (cond b (Complete, Some bytes) (cond c (TooLong, None) (More, Some (bytes ++ byte ∷ [])))) (Complete, None) → ⊥
  by_end true c h = let e : Some bytes ≡ None = ap (λ (p : Event × Partial). p.1) h in cc
  by_end false true h = let e : TooLong ≡ Complete = ap (λ (p : Event × Partial). p.0) h in cc
  by_end false false h = let e : More ≡ Complete = ap (λ (p : Event × Partial). p.0) h in cc

-- a line that ends, with its bytes
abbrev pub pair : Partial → Event × Partial
pair line = (Complete, line)

-- one byte as a piece
pub one_byte : (old new : Session) (byte : ℕ) (asked : List Exchange) (text : List ℕ) → TakesByte old byte asked new text → Replies old (byte ∷ []) asked new text
one_byte old new byte asked text takes = (new, asked, [], text, [], takes, (refl, refl, refl), sym (append-nil asked), sym (append-nil text))

-- the line continues
pub goes_on : (old new : Session) (byte : ℕ) → with_byte old.line byte ≡ (More, new.line) → new ≡ record old { line = new.line } → Replies old (byte ∷ []) [] new []
goes_on old new byte event others = one_byte old new byte [] [] (subst (λ n. TakesByte old byte [] n []) (sym others) (LineContinues new.line event))

-- through text, too
pub goes_on_through : (text : List ℕ) (line : Partial) (old new : Session) → RunsThrough old.line text line → new ≡ record old { line = line } → Replies old text [] new []
goes_on_through [] line old new same others = (refl, others ∙ ap (λ (l : Partial). record old { line = l }) same, refl)
goes_on_through (byte ∷ bytes) line old new (next, event, goes) others =
    (record old { line = next }, [], [], [], [], LineContinues next event, goes_on_through bytes line (record old { line = next }) new goes others, refl, refl)

-- the line gets too long
pub overflows : (old new : Session) (byte : ℕ) (text : List ℕ) → with_byte old.line byte ≡ (TooLong, new.line)
    → new ≡ record old { line = new.line } → IsLine (refusal_line LineTooLong) text → Replies old (byte ∷ []) [] new text
overflows old new byte text event others line =
    one_byte old new byte [] text (subst (λ n. TakesByte old byte [] n text) (sym others) (LineOverflows new.line text event line))

-- what a line is replied is asked at once
at_once : (peer : Peer) (line : List ℕ) (asked : List Exchange) (peer' : Peer) (text : List ℕ) → IsReplied peer line asked peer' text → IsAtOnce asked
at_once peer line exchanges peer' text (Greeted name is) = inl tt
at_once peer line exchanges peer' text (Asked command answer t is reply) = inl tt
at_once peer line exchanges peer' text (WasRead doc question shown t is reply) = inr (shown, refl)
at_once peer line exchanges peer' text (WasSubscribed doc revision shown is) = inr (shown, refl)
at_once peer line exchanges peer' text (NotSubscribed doc revision shown is) = inr (shown, refl)
at_once peer line exchanges peer' text (WasUnsubscribed doc is) = inl tt
at_once peer line exchanges peer' text (Refused refusal is) = inl tt
at_once peer line exchanges peer' text NotTaken = inl tt

-- the line ends
module _ {D : Type 0} (does : D → Exchange → D → Type 0) (old read answered new : Session) (byte : ℕ) (text : List ℕ) (desk desk' : D)
    (event : with_byte old.line byte ≡ (Complete, read.line))
    (others : read ≡ record old { line = read.line }) (peer : answered ≡ record read { peer = answered.peer })
    (next : new ≡ record answered { line = Some [] }) where
  new_session : new ≡ record old { line = Some []; peer = answered.peer }
  new_session =
      next ∙ ap (λ (b : Bool). record { line = Some []; peer = answered.peer; ended = b })
      (ap (λ (s : Session). s.ended) peer ∙ ap (λ (s : Session). s.ended) others)

  ends_at : (line : Partial) → read.line ≡ line → IfSome line (Responds does read answered desk desk' text)
      → (asked : List Exchange) × Replies old (byte ∷ []) asked new text × Asks does desk asked desk' × IsAtOnce asked
  ends_at None none responds = absurd (some_line old.line byte (event ∙ ap (λ (l : Partial). pair l) none))
  ends_at (Some line) is responds =
      let reply : IsReplied old.peer line responds.0 answered.peer text =
      subst (λ (s : Peer). IsReplied s line responds.0 answered.peer text) (ap (λ (s : Session). s.peer) others) responds.1 in (
        responds.0,
        one_byte old new byte responds.0 text
            (subst (λ n. TakesByte old byte responds.0 n text) (sym new_session)
            (LineEnds line responds.0 answered.peer text (event ∙ ap (λ (l : Partial). pair l) is) reply)),
        responds.2,
        at_once old.peer line responds.0 answered.peer text reply,
      )

  pub ends : IfSome read.line (Responds does read answered desk desk' text)
      → (asked : List Exchange) × Replies old (byte ∷ []) asked new text × Asks does desk asked desk' × IsAtOnce asked
  ends responds = ends_at read.line refl responds

-- a line that ends is the one that was begun
pub same_line : (line read : Partial) (byte : ℕ) → with_byte line byte ≡ (Complete, read) → read ≡ line
same_line None read byte h = let e : More ≡ Complete = ap (λ (p : Event × Partial). p.0) h in cc
same_line (Some bytes) read byte h = by_end (byte == 10) (length bytes == 65536) h where
  by_end : (b c : Bool) → ◌≡◌ {A = Event × Partial} (cond b (Complete, Some bytes) (cond c (TooLong, None) (More, Some (bytes ++ byte ∷ [])))) (Complete, read) → read ≡ Some bytes
  by_end true c h = sym (ap (λ (p : Event × Partial). p.1) h)
  by_end false true h = let e : TooLong ≡ Complete = ap (λ (p : Event × Partial). p.0) h in cc
  by_end false false h = let e : More ≡ Complete = ap (λ (p : Event × Partial). p.0) h in cc

-- the session is unchanged at the line's end
pub same_session : (old read : Session) (byte : ℕ) → with_byte old.line byte ≡ (Complete, read.line) → read ≡ record old { line = read.line } → read ≡ old
same_session old read byte event others = others ∙ ap (λ (l : Partial). record old { line = l }) (same_line old.line read.line byte event)

-- and still is once what was sent ahead is answered
pub read_after : (old read same : Session) (byte : ℕ) → same ≡ read → with_byte old.line byte ≡ (Complete, read.line) → read ≡ record old { line = read.line }
    → (with_byte old.line byte ≡ (Complete, same.line)) × (same ≡ record old { line = same.line })
read_after old read same byte is event others = (
  subst (λ (s : Session). with_byte old.line byte ≡ pair s.line) (sym is) event,
  subst (λ (s : Session). s ≡ record old { line = s.line }) (sym is) others,
)
