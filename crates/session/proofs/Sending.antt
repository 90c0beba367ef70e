-- Lines that were sent ahead.
use Rattle.std.proofs.Common.{◌≡◌, ◌++◌, List, ℕ, [], ◌∷◌, Option, Some, None, Result, Ok, IfSome, true, refl, sym, ap, subst, ◌∙◌, inl, append_assoc, append-nil, take, set, get_or, length, ◌<◌, ◌+◌, zero, suc, arith}
use Rattle.std.proofs.lemmas.List.{map-append, take_more_set}
use Rattle.std.proofs.Math.Seq.{map-set_same}
use Rattle.std.specs.Io.KnownBytes.{Appends}
use Rattle.refusal.specs.declared.Refusal.{Refusal}
use Rattle.optext.specs.Answer.{IsAnswer}
use Rattle.revision.specs.Command.{Command}
use Rattle.session.specs.declared.reply.Reply.{Reply}
use Rattle.session.specs.declared.line.Event.TheVariants.{Complete}
use Rattle.session.specs.declared.request.Request.TheVariants.{Ask}
use Rattle.session.specs.declared.sent.Sent.{Sent}
use Rattle.session.specs.Exchange.{Exchange, Answered, AreAnswered}
use Rattle.session.specs.Line.{Partial, with_byte, TakesText}
use Rattle.session.specs.Output.{AppendsFront}
use Rattle.session.specs.Request.{request_of}
use Rattle.session.specs.Session.{Session}
use Rattle.session.specs.Replies.{answer_line, IsLine, Asked, TakesByte, LineEnds, IsAtOnce, Replies, Asks, Feeds, Stops}
use Rattle.session.specs.Ahead.{command_of, commands_of, exchange_of, exchanges_of, AreReplies, IsSentAhead, AnswersPending, Ahead}
use Rattle.session.proofs.Feeding.{replies-joined, asks-joined, feeds-joined, feeds-nothing}
use Rattle.session.proofs.Replying.{due_ok, some_line, pair, one_byte, goes_on_through}
use Rattle.session.proofs.Writes.{front-longer}

-- nothing was sent ahead
none_sent : (s : Session) → IsSentAhead s [] [] s
none_sent s [] text is tell = (refl, refl, tell)
none_sent s (one ∷ others) text is tell = absurd cc

-- the line continues
sent_on : (old mid new : Session) (bytes more : List ℕ) (commands : List Command) → IsSentAhead old bytes commands mid
    → Replies mid more [] new [] → IsSentAhead old (bytes ++ more) commands new
sent_on old mid new bytes more commands sent goes answered text is tell =
    let joined = replies-joined bytes more old mid new (exchanges_of answered) [] text [] (sent answered text is tell) goes in
    subst (λ (l : List Exchange). Replies old (bytes ++ more) l new text) (append-nil (exchanges_of answered))
    (subst (λ (l : List ℕ). Replies old (bytes ++ more) (exchanges_of answered ++ []) new l) (append-nil text) joined)

-- equal lists have equal heads and equal tails
cons_same : {X : Type 0} (x y : X) (xs ys : List X) → x ∷ xs ≡ y ∷ ys → (x ≡ y) × (xs ≡ ys)
cons_same x y xs ys is = (cc, cc)

-- the last of the commands
last_sent : (commands : List Command) (command : Command) (answered : List Sent) → commands_of answered ≡ commands ++ command ∷ []
    → (front : List Sent) × (last : Sent) × (answered ≡ front ++ last ∷ []) × (commands_of front ≡ commands) × (last.command ≡ command)
last_sent [] command [] is = absurd cc
last_sent [] command (one ∷ []) is = ([], one, refl, refl, cc)
last_sent [] command (one ∷ other ∷ more) is = absurd cc
last_sent (first ∷ commands) command [] is = absurd cc
last_sent (first ∷ commands) command (one ∷ others) is =
    let both = cons_same one.command first (commands_of others) (commands ++ command ∷ []) is in
    let r = last_sent commands command others both.1 in (
      one ∷ r.0,
      r.1,
      ap (λ (l : List Sent). one ∷ l) r.2,
      ap (λ (c : Command). c ∷ commands_of r.0) both.0 ∙ ap (λ (l : List Command). first ∷ l) r.3,
      r.4,
    )

-- and its reply
replies_parted : (front : List Sent) (last : Sent) (text : List ℕ) → AreReplies (front ++ last ∷ []) text
    → (t : List ℕ) × (u : List ℕ) × AreReplies front t × IsLine (answer_line last.command last.answer) u × (text ≡ t ++ u)
replies_parted [] last text (line, back, is, none, whole) = ([], line, refl, is, whole ∙ ap (λ (l : List ℕ). line ++ l) none ∙ append-nil line)
replies_parted (one ∷ others) last text (line, back, is, rest, whole) =
    let r = replies_parted others last back rest in
    (line ++ r.0, r.1, (line, r.0, is, r.2, refl), r.3, whole ∙ ap (λ (l : List ℕ). line ++ l) r.4 ∙ sym (append_assoc line r.0 r.1))

-- a further command is sent ahead
sent_more : (old mid new : Session) (bytes : List ℕ) (byte : ℕ) (commands : List Command) (command : Command) → IsSentAhead old bytes commands mid
    → ((answer : Result Reply Refusal) (text : List ℕ) → IsLine (answer_line command answer) text → Replies mid (byte ∷ []) (Answered command answer ∷ []) new text)
    → IsSentAhead old (bytes ++ byte ∷ []) (commands ++ command ∷ []) new
sent_more old mid new bytes byte commands command sent ends answered text is tell =
    let s = last_sent commands command answered is in
    let p = replies_parted s.0 s.1 text (subst (λ (l : List Sent). AreReplies l text) s.2 tell) in
    let line : IsLine (answer_line command s.1.answer) p.1 = subst (λ (c : Command). IsLine (answer_line c s.1.answer) p.1) s.4 p.3 in
    let joined = replies-joined bytes (byte ∷ []) old mid new (exchanges_of s.0) (Answered command s.1.answer ∷ []) p.0 p.1 (sent s.0 p.0 s.3 p.2) (ends s.1.answer p.1 line) in
    let these : exchanges_of answered ≡ exchanges_of s.0 ++ Answered command s.1.answer ∷ [] =
    ap exchanges_of s.2 ∙ map-append exchange_of s.0 (s.1 ∷ []) ∙ ap (λ (c : Command). exchanges_of s.0 ++ Answered c s.1.answer ∷ []) s.4 in
    subst (λ (l : List Exchange). Replies old (bytes ++ byte ∷ []) l new text) (sym these)
    (subst (λ (l : List ℕ). Replies old (bytes ++ byte ∷ []) (exchanges_of s.0 ++ Answered command s.1.answer ∷ []) new l) (sym p.4) joined)

-- the line of a command ends, and whatever is answered to it is replied
ends_in : (old read new : Session) (byte : ℕ) (command : Command) → with_byte old.line byte ≡ (Complete, read.line) → read ≡ record old { line = read.line }
    → new ≡ record read { line = Some [] } → (line : Partial) → read.line ≡ line → IfSome line (λ l. IsAnswer (request_of read.peer.source l) (Ok (Ask command)))
    → (answer : Result Reply Refusal) (text : List ℕ) → IsLine (answer_line command answer) text → Replies old (byte ∷ []) (Answered command answer ∷ []) new text
ends_in old read new byte command event others next None none due answer text reply = absurd (some_line old.line byte (event ∙ ap (λ (l : Partial). pair l) none))
ends_in old read new byte command event others next (Some line) is due answer text reply =
    let new_is : new ≡ record old { line = Some [] } = next ∙ ap (λ (s : Session). record s { line = Some [] }) others in
    let asks : request_of old.peer.source line ≡ Ok (Ask command) = ap (λ (s : Session). request_of s.peer.source line) (sym others) ∙ due_ok _ _ due in
    one_byte old new byte (Answered command answer ∷ []) text
    (subst (λ (n : Session). TakesByte old byte (Answered command answer ∷ []) n text) (sym new_is)
    (LineEnds line (Answered command answer ∷ []) old.peer text (event ∙ ap (λ (l : Partial). pair l) is) (Asked command answer text asks reply)))

-- commands are asked at once
all_answered : (sent : List Sent) → AreAnswered (exchanges_of sent)
all_answered [] = tt
all_answered (one ∷ others) = all_answered others

-- one more is replied
pub replies_more : (front : List Sent) (last : Sent) (text line : List ℕ) → AreReplies front text → IsLine (answer_line last.command last.answer) line
    → AreReplies (front ++ last ∷ []) (text ++ line)
replies_more [] last text line none is = (line, [], is, refl, ap (λ (l : List ℕ). l ++ line) none ∙ sym (append-nil line))
replies_more (one ∷ others) last text line (first, back, is, rest, whole) reply =
    (first, back ++ line, is, replies_more others last back line rest reply, ap (λ (l : List ℕ). l ++ line) whole ∙ append_assoc first back line)

-- what stands at a place, whatever is said to stand beyond the end
same_item : (sent : List Sent) (i : ℕ) (x y : Sent) → i < length sent → get_or sent i x ≡ get_or sent i y
same_item [] i x y within = absurd (omega arith)
same_item (one ∷ others) zero x y within = refl
same_item (one ∷ others) (suc i) x y within = same_item others i x y (omega arith)

module _ {D : Type 0} (does : D → Exchange → D → Type 0) where
  -- one more was asked, and its answer noted
  pub asked_more : (old now new : D) (sent : List Sent) (i : ℕ) (asked item : Sent) (answer : Result Reply Refusal) → i < length sent → asked ≡ get_or sent i asked
      → item ≡ get_or sent i item → Asks does old (exchanges_of (take i sent)) now → does now (Answered asked.command answer) new
      → (commands_of (set sent i (record { command = item.command; answer = answer })) ≡ commands_of sent)
      × Asks does old (exchanges_of (take (i + 1) (set sent i (record { command = item.command; answer = answer })))) new
  asked_more old now new sent i asked item answer within asked_at item_at before gave =
      let noted : Sent = record { command = item.command; answer = answer } in
      let same : asked ≡ item = asked_at ∙ same_item sent i asked item within ∙ sym item_at in
      let these : exchanges_of (take (i + 1) (set sent i noted)) ≡ exchanges_of (take i sent) ++ Answered item.command answer ∷ [] =
      ap exchanges_of (take_more_set sent i noted within) ∙ map-append exchange_of (take i sent) (noted ∷ []) in (
        map-set_same command_of sent i noted item (ap command_of item_at),
        subst (λ (l : List Exchange). Asks does old l new) (sym these)
            (asks-joined does (exchanges_of (take i sent)) (Answered item.command answer ∷ []) old now new before
            (new, subst (λ (s : Sent). does now (Answered s.command answer) new) same gave, refl)),
      )

  -- what holds of the replies
  pub answers_map : (commands : List Command) (desk desk' : D) (P Q : List ℕ → Type 0) → ((text : List ℕ) → P text → Q text)
      → AnswersPending does commands desk desk' P → AnswersPending does commands desk desk' Q
  answers_map commands desk desk' P Q so s =
      record { answered = s.answered; these = s.these; asks = s.asks; text = s.text; tell = s.tell; holds = so s.text s.holds }

  -- what was fed has nothing left that was sent ahead
  pub ahead_of : (old new : Session) (piece : List ℕ) (d e : D) (o p : Option (List ℕ)) → Feeds does old piece new d e o p → Ahead does old piece [] new d e o p
  ahead_of old new piece d e o p fed = record { front = piece; back = []; whole = sym (append-nil piece); mid = new; fed = fed; sent = none_sent new }

  pub ahead_of_nothing : (s : Session) (d : D) (o : Option (List ℕ)) → Ahead does s [] [] s d d o o
  ahead_of_nothing s d o = ahead_of s s [] d d o o (feeds-nothing does s d o)

  module _ (first old : Session) (piece : List ℕ) (commands : List Command) (begun desk : D) (clean out : Option (List ℕ))
      (ahead : Ahead does first piece commands old begun desk clean out) where
    -- the line continues
    pub ahead_on : (new : Session) (more : List ℕ) → Replies old more [] new [] → Ahead does first (piece ++ more) commands new begun desk clean out
    ahead_on new more goes = record {
      front = ahead.front;
      back = ahead.back ++ more;
      whole = ap (λ (l : List ℕ). l ++ more) ahead.whole ∙ append_assoc ahead.front ahead.back more;
      mid = ahead.mid;
      fed = ahead.fed;
      sent = sent_on ahead.mid old new ahead.back more commands ahead.sent goes;
    }

    -- so it does through text that is taken at once
    pub ahead_through : (new : Session) (rest left : List ℕ) (taken : TakesText old.line rest new.line left) → new ≡ record old { line = new.line }
        → Ahead does first (piece ++ taken.text) commands new begun desk clean out
    ahead_through new rest left taken others = ahead_on new taken.text (goes_on_through taken.text new.line old new taken.goes_on others)

    -- a command is sent ahead
    pub ahead_more : (read new : Session) (byte : ℕ) (command : Command) → with_byte old.line byte ≡ (Complete, read.line) → read ≡ record old { line = read.line }
        → new ≡ record read { line = Some [] } → IfSome read.line (λ l. IsAnswer (request_of read.peer.source l) (Ok (Ask command)))
        → Ahead does first (piece ++ byte ∷ []) (commands ++ command ∷ []) new begun desk clean out
    ahead_more read new byte command event others next due = record {
      front = ahead.front;
      back = ahead.back ++ byte ∷ [];
      whole = ap (λ (l : List ℕ). l ++ byte ∷ []) ahead.whole ∙ append_assoc ahead.front ahead.back (byte ∷ []);
      mid = ahead.mid;
      fed = ahead.fed;
      sent = sent_more ahead.mid old new ahead.back byte commands command ahead.sent (ends_in old read new byte command event others next read.line refl due);
    }

    -- what was sent ahead is asked and replied
    pub answered_all : (desk' : D) (out' : Option (List ℕ)) → AnswersPending does commands desk desk' (λ text. Appends out out' text) → Feeds does first piece old begun desk' clean out'
    answered_all desk' out' answers =
        let part : Feeds does ahead.mid ahead.back old desk desk' out out' =
        record { asked = exchanges_of answers.answered; text = answers.text; replies = ahead.sent answers.answered answers.text answers.these answers.tell; asks = answers.asks; written = answers.holds } in
        subst (λ (l : List ℕ). Feeds does first l old begun desk' clean out') (sym ahead.whole)
        (feeds-joined does ahead.front ahead.back first ahead.mid old begun desk desk' clean out out' ahead.fed part)

    -- or the write fails
    pub stops_answering : (new : Session) (desk' : D) (out' : Option (List ℕ)) (rest : List ℕ) → AnswersPending does commands desk desk' (λ text. AppendsFront out out' text)
        → new ≡ record old { ended = true } → Stops does first (piece ++ rest) new begun desk' clean out'
    stops_answering new desk' out' rest answers ended = record {
      front = ahead.front;
      part = ahead.back;
      rest = rest;
      whole = ap (λ (l : List ℕ). l ++ rest) ahead.whole ∙ append_assoc ahead.front ahead.back rest;
      mid = ahead.mid;
      desk_mid = desk;
      out_mid = out;
      fed = ahead.fed;
      asked = exchanges_of answers.answered;
      text = answers.text;
      next = old;
      replies = ahead.sent answers.answered answers.text answers.these answers.tell;
      at_once = inl (all_answered answers.answered);
      asks = answers.asks;
      written = answers.holds;
      ended = ended;
    }

    -- or it fails where a further line has got too long
    pub stops_overflowing : (read new : Session) (byte : ℕ) (line : List ℕ) (desk' : D) (out' : Option (List ℕ)) → AnswersPending does commands desk desk' (λ text. AppendsFront out out' text)
        → Replies old (byte ∷ []) [] read line → new ≡ record read { ended = true } → Stops does first (piece ++ byte ∷ []) new begun desk' clean out'
    stops_overflowing read new byte line desk' out' answers over ended = record {
      front = ahead.front;
      part = ahead.back ++ byte ∷ [];
      rest = [];
      whole = ap (λ (l : List ℕ). l ++ byte ∷ []) ahead.whole ∙ append_assoc ahead.front ahead.back (byte ∷ [])
          ∙ ap (λ (l : List ℕ). ahead.front ++ l) (sym (append-nil (ahead.back ++ byte ∷ [])));
      mid = ahead.mid;
      desk_mid = desk;
      out_mid = out;
      fed = ahead.fed;
      asked = exchanges_of answers.answered;
      text = answers.text ++ line;
      next = read;
      replies = subst (λ (l : List Exchange). Replies ahead.mid (ahead.back ++ byte ∷ []) l read (answers.text ++ line)) (append-nil (exchanges_of answers.answered))
          (replies-joined ahead.back (byte ∷ []) ahead.mid old read (exchanges_of answers.answered) [] answers.text line
          (ahead.sent answers.answered answers.text answers.these answers.tell) over);
      at_once = inl (all_answered answers.answered);
      asks = answers.asks;
      written = front-longer out out' answers.text line answers.holds;
      ended = ended;
    }

  -- a byte after what was fed
  pub ahead_behind : (first old new : Session) (piece : List ℕ) (byte : ℕ) (begun desk desk' : D) (clean out out' : Option (List ℕ)) (asked : List Exchange) (text : List ℕ)
      → Feeds does first piece old begun desk clean out → Replies old (byte ∷ []) asked new text → Asks does desk asked desk' → Appends out out' text
      → Ahead does first (piece ++ byte ∷ []) [] new begun desk' clean out'
  ahead_behind first old new piece byte begun desk desk' clean out out' asked text fed replies asks written =
      ahead_of first new (piece ++ byte ∷ []) begun desk' clean out'
      (feeds-joined does piece (byte ∷ []) first old new begun desk desk' clean out out' fed
      (record { asked = asked; text = text; replies = replies; asks = asks; written = written }))

  -- and one at which the write fails
  pub stops_behind : (first old next new : Session) (piece : List ℕ) (byte : ℕ) (begun desk desk' : D) (clean out out' : Option (List ℕ)) (asked : List Exchange) (text : List ℕ)
      → Feeds does first piece old begun desk clean out → Replies old (byte ∷ []) asked next text → Asks does desk asked desk' → IsAtOnce asked → AppendsFront out out' text
      → new ≡ record next { ended = true } → Stops does first (piece ++ byte ∷ []) new begun desk' clean out'
  stops_behind first old next new piece byte begun desk desk' clean out out' asked text fed replies asks at_once written ended = record {
    front = piece;
    part = byte ∷ [];
    rest = [];
    whole = refl;
    mid = old;
    desk_mid = desk;
    out_mid = out;
    fed = fed;
    asked = asked;
    text = text;
    next = next;
    replies = replies;
    at_once = at_once;
    asks = asks;
    written = written;
    ended = ended;
  }
