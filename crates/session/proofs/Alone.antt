-- What is written over a state alone.
use Rattle.std.proofs.Common.{Bool, true, false, ◌≡◌, ◌++◌, List, ℕ, [], ◌∷◌, Option, Some, refl, sym, ap, subst, ◌∙◌, inl, inr, append_assoc, append-nil}
use Rattle.refusal.specs.declared.Refusal.TheVariants.{NoMemory}
use Rattle.revision.specs.State.{State}
use Rattle.revision.specs.Acceptance.{decide}
use Rattle.session.specs.Exchange.{Exchange}
use Rattle.session.specs.Reads.{shown_line}
use Rattle.session.specs.Reply.{subscribed_line, refusal_line}
use Rattle.session.specs.Subscriptions.{may_follow_shown, subscribed}
use Rattle.session.specs.News.{news_shown, subscriptions_shown, has_news}
use Rattle.session.specs.Calls.{Call, Passes, call_of, ComesOf, OfPiece, OfNews, OfMissed, Calls, with_subscriptions}
use Rattle.session.specs.Session.{Peer, Session}
use Rattle.session.specs.Replies.{answer_line, IsLine, IsReplied, Greeted, Asked, WasRead, WasSubscribed, NotSubscribed, WasUnsubscribed, Refused, NotTaken, TakesByte, LineContinues, LineOverflows, LineEnds, Replies, Asks, Feeds}
use Rattle.session.specs.Alone.{answered, Alone, Conversation, Answer, told, told_of, by_event, with_input_byte, replies, conversation_after, FindsMemory, FedAlone, HearsAlone, text_of, after_call, transcript, after_calls, of_session}

-- memory is found in each of two texts where it is found in both
finds_front : (front back : List ℕ) → FindsMemory (front ++ back) → FindsMemory front
finds_front front back finds f b is =
    finds f (b ++ back) (ap (λ (l : List ℕ). l ++ back) is ∙ append_assoc f (refusal_line NoMemory ++ b) back ∙ ap (λ (l : List ℕ). f ++ l) (append_assoc (refusal_line NoMemory) b back))

finds_back : (front back : List ℕ) → FindsMemory (front ++ back) → FindsMemory back
finds_back front back finds f b is =
    finds (front ++ f) b (ap (λ (l : List ℕ). front ++ l) is ∙ sym (append_assoc front f (refusal_line NoMemory ++ b)))

-- a text with memory isn't NoMemory's line
not_memory : (text : List ℕ) → FindsMemory text → text ≡ refusal_line NoMemory → ⊥
not_memory text finds is = finds [] [] (is ∙ sym (append-nil (refusal_line NoMemory)))

-- so it is the line that is due
due_line : (due text : List ℕ) → FindsMemory text → IsLine due text → text ≡ due
due_line due text finds (inl is) = is
due_line due text finds (inr memory) = absurd (not_memory text finds memory)

-- what is replied to a line
replied : (peer : Peer) (line : List ℕ) (asked : List Exchange) (peer' : Peer) (text : List ℕ) (state after : State)
    → IsReplied peer line asked peer' text → Asks Alone state asked after → FindsMemory text
    → told_of peer state line ≡ record { text = text; peer = peer'; state = after }
replied peer line asked peer' text state after (Greeted name is) same finds =
    ap (told peer state) is ∙ ap (λ (s : State). record { text = text; peer = peer'; state = s }) (sym same)
replied peer line asked peer' text state after (Asked command answer t is reply) (next, inl (by_rule, to), same) finds =
    let text_is : t ≡ answer_line command (answered (decide state command).0) = due_line _ t finds reply ∙ ap (answer_line command) by_rule in
    ap (told peer state) is
    ∙ ap (λ (l : List ℕ). record { text = l; peer = peer; state = (decide state command).1 }) (sym text_is)
    ∙ ap (λ (s : State). record { text = t; peer = peer; state = s }) (sym (same ∙ to))
replied peer line asked peer' text state after (Asked command answer t is reply) (next, inr (memory, to), same) finds =
    absurd (not_memory t finds (due_line _ t finds reply ∙ ap (answer_line command) memory))
replied peer line asked peer' text state after (WasRead doc question shown t is reply) (next, (shows, to), same) finds =
    let text_is : t ≡ shown_line doc question (Some state) = due_line _ t finds reply ∙ ap (shown_line doc question) shows in
    ap (told peer state) is
    ∙ ap (λ (l : List ℕ). record { text = l; peer = peer; state = state }) (sym text_is)
    ∙ ap (λ (s : State). record { text = t; peer = peer; state = s }) (sym (same ∙ to))
replied peer line asked peer' text state after (WasSubscribed doc revision shown is) (next, (shows, to), same) finds =
    ap (told peer state) is
    ∙ ap (λ (o : Option State). record {
      text = subscribed_line doc revision (may_follow_shown doc revision o);
      peer = record peer { subscriptions = subscribed peer.subscriptions doc revision (may_follow_shown doc revision o) };
      state = state;
    }) (sym shows)
    ∙ ap (λ (s : State). record { text = text; peer = peer'; state = s }) (sym (same ∙ to))
replied peer line asked peer' text state after (NotSubscribed doc revision shown is) asks finds = absurd (not_memory text finds refl)
replied peer line asked peer' text state after (WasUnsubscribed doc is) same finds =
    ap (told peer state) is ∙ ap (λ (s : State). record { text = text; peer = peer'; state = s }) (sym same)
replied peer line asked peer' text state after (Refused refusal is) same finds =
    ap (told peer state) is ∙ ap (λ (s : State). record { text = text; peer = peer'; state = s }) (sym same)
replied peer line asked peer' text state after NotTaken same finds = absurd (not_memory text finds refl)

-- what comes of a byte
takes : (old new : Session) (byte : ℕ) (asked : List Exchange) (text : List ℕ) (state after : State)
    → TakesByte old byte asked new text → Asks Alone state asked after → FindsMemory text
    → with_input_byte (of_session old state) byte ≡ (text, of_session new after)
takes old new byte asked text state after (LineContinues line is) same finds =
    ap (by_event (of_session old state)) is
    ∙ ap (λ (s : State). (text, of_session new s)) (sym same)
takes old new byte asked text state after (LineOverflows line t is reply) same finds =
    ap (by_event (of_session old state)) is
    ∙ ap (λ (l : List ℕ). (l, of_session new state)) (sym (due_line _ t finds reply))
    ∙ ap (λ (s : State). (t, of_session new s)) (sym same)
takes old new byte asked text state after (LineEnds line a peer t is reply) asks finds =
    ap (by_event (of_session old state)) is
    ∙ ap (λ (told : Answer). (told.text, record { line = Some []; peer = told.peer; state = told.state })) (replied old.peer line a peer t state after reply asks finds)

-- the exchanges of two pieces, one after the other
parted : (a b : List Exchange) (old new : State) → Asks Alone old (a ++ b) new → (mid : State) × Asks Alone old a mid × Asks Alone mid b new
parted [] b old new asks = (old, refl, asks)
parted (exchange ∷ others) b old new (next, does, rest) =
    let p = parted others b next new rest in
    (p.0, (next, does, p.1), p.2)

written : (old new : Session) (state after : State) (piece : List ℕ) (asked : List Exchange) (text : List ℕ)
    → Replies old piece asked new text → Asks Alone state asked after → FindsMemory text
    → (text ≡ replies (of_session old state) piece) × (of_session new after ≡ conversation_after (of_session old state) piece)
written old new state after [] asked text (nothing, is, no_text) asks finds =
    let same : after ≡ state = subst (λ (l : List Exchange). Asks Alone state l after) nothing asks in
    (no_text, ap (λ (s : Session). of_session s after) is ∙ ap (of_session old) same)
written old new state after (byte ∷ bytes) asked text (next, first, others, front, back, takes_it, rest, all, whole) asks finds =
    let p = parted first others state after (subst (λ (l : List Exchange). Asks Alone state l after) all asks) in
    let both : FindsMemory (front ++ back) = subst FindsMemory whole finds in
    let step = takes old next byte first front state p.0 takes_it p.1 (finds_front front back both) in
    let behind = written next new p.0 after bytes others back rest p.2 (finds_back front back both) in (
      whole ∙ ap (λ (l : List ℕ). front ++ l) behind.0
          ∙ ap (λ (r : List ℕ × Conversation). r.0 ++ replies r.1 bytes) (sym step),
      behind.1 ∙ ap (λ (r : List ℕ × Conversation). conversation_after r.1 bytes) (sym step),
    )

pub fed_alone : (old new : Session) (state after : State) (piece : List ℕ) (out out' : Option (List ℕ)) → Feeds Alone old piece new state after out out'
    → FedAlone (of_session old state) piece (of_session new after) out out'
fed_alone old new state after piece out out' fed = record {
  text = fed.text;
  written = fed.written;
  replied = λ finds. (written old new state after piece fed.asked fed.text fed.replies fed.asks finds).0;
  goes_on = λ finds. (written old new state after piece fed.asked fed.text fed.replies fed.asks finds).1;
}

-- what comes of one call
called : (old new : Session) (state after : State) (call : Call) (asked : List Exchange) (text : List ℕ)
    → ComesOf old call asked new text → Asks Alone state asked after → FindsMemory text
    → (text ≡ text_of (of_session old state) call) × (of_session new after ≡ after_call (of_session old state) call)
called old new state after call asked text (OfPiece piece a n t replies) asks finds = written old n state after piece a t replies asks finds
called old new state after call asked text (OfNews shown) (next, (shows, to), same) finds = (
  ap (news_shown old.peer.subscriptions) shows,
  ap (λ (o : Option State). of_session (with_subscriptions old (subscriptions_shown old.peer.subscriptions o)) after) shows
      ∙ ap (of_session (with_subscriptions old (subscriptions_shown old.peer.subscriptions (Some state)))) (same ∙ to),
)
called old new state after call asked text (OfMissed shown wanted) (next, (shows, to), same) finds = (refl, ap (of_session old) (same ∙ to))

-- and of calls, one after another
pub calls_alone : (old new : Session) (state after : State) (calls : List Call) (asked : List Exchange) (text : List ℕ)
    → Calls old calls asked new text → Asks Alone state asked after → FindsMemory text
    → (text ≡ transcript (of_session old state) calls) × (of_session new after ≡ after_calls (of_session old state) calls)
calls_alone old new state after [] asked text (nothing, is, no_text) asks finds =
    let same : after ≡ state = subst (λ (l : List Exchange). Asks Alone state l after) nothing asks in
    (no_text, ap (λ (s : Session). of_session s after) is ∙ ap (of_session old) same)
calls_alone old new state after (call ∷ calls) asked text (next, first, others, front, back, comes, rest, all, whole) asks finds =
    let p = parted first others state after (subst (λ (l : List Exchange). Asks Alone state l after) all asks) in
    let both : FindsMemory (front ++ back) = subst FindsMemory whole finds in
    let step = called old next state p.0 call first front comes p.1 (finds_front front back both) in
    let behind = calls_alone next new p.0 after calls others back rest p.2 (finds_back front back both) in (
      whole ∙ ap (λ (l : List ℕ). l ++ back) step.0 ∙ ap (λ (l : List ℕ). text_of (of_session old state) call ++ l) behind.0
          ∙ ap (λ (c : Conversation). text_of (of_session old state) call ++ transcript c calls) step.1,
      behind.1 ∙ ap (λ (c : Conversation). after_calls c calls) step.1,
    )

-- news over a state alone need no memory for a reply
heard : (old new : Session) (state after : State) (told : Bool) (call : Call) (asked : List Exchange) (text : List ℕ) → call ≡ call_of told
    → ComesOf old call asked new text → Asks Alone state asked after
    → (text ≡ text_of (of_session old state) call) × (of_session new after ≡ after_call (of_session old state) call)
heard old new state after true call asked text is (OfPiece piece a n t replies) asks = cc
heard old new state after false call asked text is (OfPiece piece a n t replies) asks = cc
heard old new state after told call asked text is (OfNews shown) (next, (shows, to), same) = (
  ap (news_shown old.peer.subscriptions) shows,
  ap (λ (o : Option State). of_session (with_subscriptions old (subscriptions_shown old.peer.subscriptions o)) after) shows
      ∙ ap (of_session (with_subscriptions old (subscriptions_shown old.peer.subscriptions (Some state)))) (same ∙ to),
)
heard old new state after told call asked text is (OfMissed shown wanted) (next, (shows, to), same) = (refl, ap (of_session old) (same ∙ to))

-- news that are missed are some
wanted : (old new : Session) (state after : State) (told : Bool) (call : Call) (asked : List Exchange) (text : List ℕ) → call ≡ call_of told
    → ComesOf old call asked new text → Asks Alone state asked after → told ≡ false → has_news old.peer.subscriptions state ≡ true
wanted old new state after true call asked text is comes asks missed = cc
wanted old new state after false call asked text is (OfPiece piece a n t replies) asks missed = cc
wanted old new state after false call asked text is (OfNews shown) asks missed = cc
wanted old new state after false call asked text is (OfMissed shown some) (next, (shows, to), same) missed = some state shows

pub hears_alone : (old new : Session) (state after : State) (told : Bool) (out out' : Option (List ℕ))
    → Passes Alone old (call_of told) new state after out out' → HearsAlone told (of_session old state) (of_session new after) out out'
hears_alone old new state after told out out' passes =
    let h = heard old new state after told (call_of told) passes.asked passes.text refl passes.comes passes.asks in
    let w = wanted old new state after told (call_of told) passes.asked passes.text refl passes.comes passes.asks in
    record { text = passes.text; written = passes.written; heard = h.0; goes_on = h.1; wanted = w }
