-- What desks exchange in conversations, one after another.
use Rattle.std.proofs.Common.{◌≡◌, ◌∙◌, ◌++◌, ℕ, List, [], ◌∷◌, true, false, take, drop, Option, Some, Result, Ok, Err, OnOk, OnErr, refl, sym, ap, subst, append_assoc, append-nil, inl}
use Rattle.std.specs.Prelude.{Bool}
use Rattle.std.proofs.lemmas.List.{take-append-drop}
use mathlib.Core.List.{IsPrefix}
use Rattle.session.specs.Session.{Session}
use Rattle.session.specs.Exchange.{Exchange, Shown}
use Rattle.session.specs.Calls.{Call, Fed, Told, OfPiece, OfNews, with_subscriptions, Calls}
use Rattle.session.specs.Replies.{Asks}
use Rattle.session.specs.News.{news_shown, subscriptions_shown}
use Rattle.session.specs.Output.{AppendsFront}
use Rattle.session.proofs.CallerLemmas.{asks-joined, calls-joined, calls-one, front-of, front-behind}
use Rattle.serving.specs.Turns.{beginning, InputPiece, AreNews, AreTurns, Answers, StopsIn, InReplies, InNews, InSending}
use Rattle.sockets.specs.declared.parting.Parting.{Parting}
use Rattle.sockets.specs.declared.parting.Parting.TheVariants.{NoMemory}
use Rattle.sockets.specs.declared.raw.Visit.{Visit}
use Rattle.sockets.specs.Socket as socket
use Rattle.sockets.specs.Socket.{Event, pieces_of, bytes_of}
use Rattle.sockets.specs.Host.{reads_in, writes_in}
use Rattle.sockets.specs.Conversation.{IsAnswered, StopsConversing}
use Rattle.sockets.specs.Ends.{EndsBetween, ends_in_write, was_closed}
use Rattle.sockets.specs.Desks.{AreTurnsSoFar, no_turn as none_so_far, in_piece, turn_before, Whole, Cut, AreConversations, in_none, in_one_more, Talks, ServesVisits}

-- turns that were not broken off, and such turns before others
so_far : (pieces : List InputPiece) (calls : List Call) → AreTurns pieces calls → AreTurnsSoFar pieces calls
so_far [] calls none = subst (AreTurnsSoFar []) (sym none) none_so_far
so_far (piece ∷ pieces) calls (news, others, for_news, rest, is) =
    subst (AreTurnsSoFar (piece ∷ pieces)) (sym is) (turn_before piece pieces news others for_news (so_far pieces others rest))

so_far_behind : (front back : List InputPiece) (a b : List Call) → AreTurns front a → AreTurnsSoFar back b → AreTurnsSoFar (front ++ back) (a ++ b)
so_far_behind [] back a b none second = subst (λ (l : List Call). AreTurnsSoFar back (l ++ b)) (sym none) second
so_far_behind (piece ∷ pieces) back a b (news, others, for_news, rest, is) second =
    subst (AreTurnsSoFar (piece ∷ (pieces ++ back)))
    (sym (ap (λ (l : List Call). l ++ b) is ∙ ap (λ (l : List Call). Fed piece.bytes ∷ l) (append_assoc news others b)))
    (turn_before piece (pieces ++ back) news (others ++ b) for_news (so_far_behind pieces back others b rest second))

-- a prefix of what was written, where that is a prefix of a text
prefix_of_front : (sent rest old new text : List ℕ) → old ≡ [] → new ≡ sent ++ rest → AppendsFront (Some old) (Some new) text → IsPrefix sent text
prefix_of_front sent rest old new text none whole (count, within, front) = (
  rest ++ drop count text,
  sym (append_assoc sent rest (drop count text)) ∙ (ap (λ l. l ++ drop count text) (sym whole ∙ (front ∙ ap (λ l. l ++ take count text) none))
      ∙ take-append-drop count text),
)

-- conversations, and then others
conversations_joined : (hall : ℕ) (visits others : List Visit) (a b : List Exchange) → AreConversations hall visits a → AreConversations hall others b
    → AreConversations hall (visits ++ others) (a ++ b)
conversations_joined hall visits others a b in_none second = second
conversations_joined hall visits others a b (in_one_more visit more asked rest one before) second =
    subst (AreConversations hall (visit ∷ (more ++ others))) (sym (append_assoc asked rest b))
    (in_one_more visit (more ++ others) asked (rest ++ b) one (conversations_joined hall more others rest b before second))

module _ {D : Type 0} (does : D → Exchange → D → Type 0) where
  -- Turns of a session were taken, and the last one was perhaps broken off; a prefix of what comes of them was written.
  record Broken (pieces : List InputPiece) (old : Session) (d e : D) (o p : Option (List ℕ)) : Type 0 where
    pub calls : List Call
    pub asked : List Exchange
    pub last : Session
    pub text : List ℕ
    pub turns : AreTurnsSoFar pieces calls
    pub comes : Calls old calls asked last text
    pub asks : Asks does d asked e
    pub front : AppendsFront o p text

  -- turns whose text wasn't sent on
  broken_unsent : (pieces : List InputPiece) (old new : Session) (d e : D) (o p : Option (List ℕ)) → Answers does old pieces new d e o p
      → Broken pieces old d e o p
  broken_unsent pieces old new d e o p answers = record {
    calls = answers.calls;
    asked = answers.asked;
    last = new;
    text = answers.text;
    turns = so_far pieces answers.calls answers.turns;
    comes = answers.comes;
    asks = answers.asks;
    front = front-of o p answers.text [] answers.text (append-nil answers.text) answers.written;
  }

  -- a turn in which a write failed
  broken_in : (piece : InputPiece) (old : Session) (d e : D) (o p : Option (List ℕ)) → StopsIn does old d o piece e p → Broken (piece ∷ []) old d e o p
  broken_in piece old d e o p (InReplies part new g q stops) =
      let fed = stops.fed in
      record {
        calls = Fed stops.front ∷ Fed stops.part ∷ [];
        asked = fed.asked ++ stops.asked;
        last = stops.next;
        text = fed.text ++ stops.text;
        turns = in_piece part stops.front stops.part stops.rest stops.whole;
        comes = calls-joined (Fed stops.front ∷ []) (Fed stops.part ∷ []) old stops.mid stops.next fed.asked stops.asked fed.text stops.text
            (calls-one old stops.mid (Fed stops.front) fed.asked fed.text (OfPiece stops.front fed.asked stops.mid fed.text fed.replies))
            (calls-one stops.mid stops.next (Fed stops.part) stops.asked stops.text (OfPiece stops.part stops.asked stops.next stops.text stops.replies));
        asks = asks-joined does fed.asked stops.asked d stops.desk_mid g fed.asks stops.asks;
        front = front-behind o stops.out_mid q fed.text stops.text fed.written stops.written;
      }
  broken_in piece old d e o p (InNews part told new between g replied q cut fed stops) =
      let followed = told.peer.subscriptions in
      let news = news_shown followed stops.shown in
      let after = with_subscriptions told (subscriptions_shown followed stops.shown) in
      record {
        calls = Fed part.bytes ∷ Told ∷ [];
        asked = fed.asked ++ (Shown stops.shown ∷ []);
        last = after;
        text = fed.text ++ news;
        turns = turn_before part [] (Told ∷ []) [] (subst (λ (b : Bool). AreNews b (Told ∷ [])) (sym cut) (Told, inl refl, refl)) none_so_far;
        comes = calls-joined (Fed part.bytes ∷ []) (Told ∷ []) old told after fed.asked (Shown stops.shown ∷ []) fed.text news
            (calls-one old told (Fed part.bytes) fed.asked fed.text (OfPiece part.bytes fed.asked told fed.text fed.replies))
            (calls-one told after Told (Shown stops.shown ∷ []) news (OfNews stops.shown));
        asks = asks-joined does fed.asked (Shown stops.shown ∷ []) d between g fed.asks (g, stops.shows, refl);
        front = front-behind o replied q fed.text news fed.written stops.written;
      }
  broken_in piece old d e o p (InSending part new g q answers) = broken_unsent (part ∷ []) old new d g o q answers

  -- and after others
  broken_behind : (front back : List InputPiece) (old mid : Session) (d e f : D) (o p q : Option (List ℕ)) → Answers does old front mid d e o p
      → Broken back mid e f p q → Broken (front ++ back) old d f o q
  broken_behind front back old mid d e f o p q answers broken = record {
    calls = answers.calls ++ broken.calls;
    asked = answers.asked ++ broken.asked;
    last = broken.last;
    text = answers.text ++ broken.text;
    turns = so_far_behind front back answers.calls broken.calls answers.turns broken.turns;
    comes = calls-joined answers.calls broken.calls old mid broken.last answers.asked broken.asked answers.text broken.text answers.comes broken.comes;
    asks = asks-joined does answers.asked broken.asked d e f answers.asks broken.asks;
    front = front-behind o p q answers.text broken.text answers.written broken.front;
  }

  module _ (hall : ℕ) where
    -- with a peer for whom there was no memory
    pub talks_with_nobody : (visit : Visit) (d : D) → (reads_in visit ≡ []) × (writes_in visit ≡ []) → Talks does hall visit d d
    talks_with_nobody visit d (reads, writes) = record {
      asked = [];
      asks = refl;
      conversation = Whole NoMemory [] beginning reads (ap was_closed writes) (subst (λ l. AreTurns (pieces_of l) []) (sym reads) refl) (refl, refl, ap bytes_of writes);
    }

    -- a conversation that ended between two turns
    pub talks_whole : (visit : Visit) (why : Parting) (d e : D) (start reads : List Event) (old new : List ℕ) → start ≡ [] → old ≡ []
        → reads_in visit ≡ reads → bytes_of (writes_in visit) ≡ new → was_closed (writes_in visit) ≡ false → EndsBetween hall why reads
        → IsAnswered does d e start reads (Some old) (Some new) → Talks does hall visit d e
    talks_whole visit why d e start reads old new begins none same sent unshut ends (last, converses) =
        let answers = converses.answers in
        let read : pieces_of (reads_in visit) ≡ converses.pieces =
        ap pieces_of same ∙ (converses.taken ∙ ap (λ l. pieces_of l ++ converses.pieces) begins) in
        let text : bytes_of (writes_in visit) ≡ answers.text = sent ∙ (answers.written ∙ ap (λ l. l ++ answers.text) none) in
        record {
          asked = answers.asked;
          asks = answers.asks;
          conversation = Whole why answers.calls last (subst (EndsBetween hall why) (sym same) ends) unshut
              (subst (λ l. AreTurns l answers.calls) (sym read) answers.turns)
              (subst (Calls beginning answers.calls answers.asked last) (sym text) answers.comes);
        }

    talks_broken : (visit : Visit) (why : Parting) (d e : D) (pieces : List InputPiece) (writes : List Event) (old new rest : List ℕ) → old ≡ []
        → pieces_of (reads_in visit) ≡ pieces → writes_in visit ≡ socket.Closed ∷ writes → was_closed writes ≡ false → new ≡ bytes_of writes ++ rest
        → ends_in_write hall why writes ≡ true → Broken pieces beginning d e (Some old) (Some new) → Talks does hall visit d e
    talks_broken visit why d e pieces writes old new rest none read closed unshut sent ends broken =
        record {
          asked = broken.asked;
          asks = broken.asks;
          conversation = Cut why writes broken.calls broken.last broken.text closed unshut ends
              (subst (λ l. AreTurnsSoFar l broken.calls) (sym read) broken.turns) broken.comes
              (prefix_of_front (bytes_of writes) rest old new broken.text none sent broken.front);
        }

    -- a conversation in which a write failed
    talks_cut : (visit : Visit) (why : Parting) (d e : D) (start reads writes : List Event) (old new rest : List ℕ) → start ≡ [] → old ≡ []
        → reads_in visit ≡ reads → writes_in visit ≡ socket.Closed ∷ writes → was_closed writes ≡ false → new ≡ bytes_of writes ++ rest → ends_in_write hall why writes ≡ true
        → StopsConversing does beginning d e start reads (Some old) (Some new) → Talks does hall visit d e
    talks_cut visit why d e start reads writes old new rest begins none same closed unshut sent ends stops =
        talks_broken visit why d e (stops.front ++ (stops.piece ∷ [])) writes old new rest none
        (ap pieces_of same ∙ (stops.taken ∙ ap (λ l. pieces_of l ++ (stops.front ++ (stops.piece ∷ []))) begins)) closed unshut sent ends
        (broken_behind stops.front (stops.piece ∷ []) beginning stops.mid d stops.desk_mid e (Some old) stops.output_mid (Some new) stops.answers
        (broken_in stops.piece stops.mid stops.desk_mid e stops.output_mid (Some new) stops.stops))

    -- one that had ended, and whose last bytes weren't sent on
    talks_unsent : (visit : Visit) (why : Parting) (d e : D) (start reads writes : List Event) (old new rest : List ℕ) → start ≡ [] → old ≡ []
        → reads_in visit ≡ reads → writes_in visit ≡ socket.Closed ∷ writes → was_closed writes ≡ false → new ≡ bytes_of writes ++ rest → ends_in_write hall why writes ≡ true
        → IsAnswered does d e start reads (Some old) (Some new) → Talks does hall visit d e
    talks_unsent visit why d e start reads writes old new rest begins none same closed unshut sent ends (last, converses) =
        talks_broken visit why d e converses.pieces writes old new rest none
        (ap pieces_of same ∙ (converses.taken ∙ ap (λ l. pieces_of l ++ converses.pieces) begins)) closed unshut sent ends
        (broken_unsent converses.pieces beginning last d e (Some old) (Some new) converses.answers)

    -- a conversation, however it had ended, where a write failed by its end
    pub talks_broken_off : {T E : Type 0} (r : Result T E) (visit : Visit) (why : Parting) (d e : D) (start reads writes : List Event) (old new rest : List ℕ)
        → start ≡ [] → old ≡ [] → reads_in visit ≡ reads → writes_in visit ≡ socket.Closed ∷ writes → was_closed writes ≡ false → new ≡ bytes_of writes ++ rest
        → ends_in_write hall why writes ≡ true → OnOk r (IsAnswered does d e start reads (Some old) (Some new))
        → OnErr r (StopsConversing does beginning d e start reads (Some old) (Some new)) → Talks does hall visit d e
    talks_broken_off (Ok x) visit why d e start reads writes old new rest begins none same closed unshut sent ends whole part =
        talks_unsent visit why d e start reads writes old new rest begins none same closed unshut sent ends whole
    talks_broken_off (Err x) visit why d e start reads writes old new rest begins none same closed unshut sent ends whole part =
        talks_cut visit why d e start reads writes old new rest begins none same closed unshut sent ends part

    pub served_nobody : (d : D) → ServesVisits does hall [] d d
    served_nobody d = record { asked = []; asks = refl; conversations = in_none }

    -- one visit more
    pub served_more : (visits : List Visit) (visit : Visit) (d e f : D) → ServesVisits does hall visits d e → Talks does hall visit e f
        → ServesVisits does hall (visits ++ (visit ∷ [])) d f
    served_more visits visit d e f serves talks = record {
      asked = serves.asked ++ talks.asked;
      asks = asks-joined does serves.asked talks.asked d e f serves.asks talks.asks;
      conversations = conversations_joined hall visits (visit ∷ []) serves.asked talks.asked serves.conversations
          (subst (AreConversations hall (visit ∷ [])) (append-nil talks.asked) (in_one_more visit [] talks.asked [] talks.conversation in_none));
    }
