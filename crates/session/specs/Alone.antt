-- A session over a state alone: what each line is replied, and what it does to the state.
use Rattle.std.specs.Prelude.{◌≡◌, ◌⊎◌, ℕ, Bool, true, false, List, [], ◌∷◌, ◌++◌, Option, Some, Result, Ok, Err}
use Rattle.std.specs.Io.KnownBytes.{Appends}
use Rattle.refusal.specs.declared.Refusal.{Refusal}
use Rattle.refusal.specs.declared.Refusal.TheVariants.{NoMemory, LineTooLong}
use Rattle.revision.specs.State.{State}
use Rattle.revision.specs.Acceptance as acceptance
use Rattle.revision.specs.Acceptance.{TakenAt, AgainAt, Refused, decide}
use Rattle.session.specs.declared.line.Event.{Event}
use Rattle.session.specs.declared.line.Event.TheVariants.{TooLong, Complete}
use Rattle.session.specs.declared.reply.Reply.{Reply}
use Rattle.session.specs.declared.reply.Reply.TheVariants.{Taken, Again}
use Rattle.session.specs.declared.request.Request.{Request}
use Rattle.session.specs.declared.request.Request.TheVariants.{Greet, Ask, Read, Subscribe, Unsubscribe}
use Rattle.session.specs.Exchange.{Exchange, Answered, Shown}
use Rattle.session.specs.Reads.{read_line}
use Rattle.session.specs.Line.{Partial, with_byte}
use Rattle.session.specs.Reply.{greeting, unsubscribed_reply, subscribed_line, line_of, refusal_line}
use Rattle.session.specs.Replies.{answer_line}
use Rattle.session.specs.Request.{request_of}
use Rattle.session.specs.Subscriptions.{may_follow, subscribed, without_subscription}
use Rattle.session.specs.News.{news, subscriptions_after, has_news}
use Rattle.session.specs.Calls.{Call, Fed, Told, Missed, call_of}
use Rattle.session.specs.Session.{Peer, Session}

-- the answer that a reply of the rule of acceptance is
abbrev pub answered : acceptance.Reply → Result Reply Refusal
answered (TakenAt revision) = Ok (Taken revision)
answered (AgainAt revision) = Ok (Again revision)
answered (Refused refusal) = Err refusal

-- A state alone answers a command by the rule, or memory ran out and it is unchanged; and it shows itself.
abbrev pub Alone : State → Exchange → State → Type 0
Alone old (Answered command result) new =
    ((result ≡ answered (decide old command).0) × (new ≡ (decide old command).1)) ⊎ ((result ≡ Err NoMemory) × (new ≡ old))
Alone old (Shown shown) new = (shown ≡ Some old) × (new ≡ old)

-- a conversation: the line so far, what is known of the peer, and the state
pub record Conversation : Type 0 where
  pub line : Partial
  pub peer : Peer
  pub state : State

-- a session over a state
abbrev pub of_session : Session → State → Conversation
of_session session state = record { line = session.line; peer = session.peer; state = state }

-- What is replied, with the peer and the state after it.
pub record Answer : Type 0 where
  pub text : List ℕ
  pub peer : Peer
  pub state : State

-- what a request is replied
abbrev pub told : Peer → State → Result Request Refusal → Answer
told peer state (Ok (Greet name)) = record { text = line_of greeting; peer = record peer { source = Some name }; state = state }
told peer state (Ok (Ask command)) =
    record { text = answer_line command (answered (decide state command).0); peer = peer; state = (decide state command).1 }
told peer state (Ok (Read doc question)) = record { text = read_line doc question state; peer = peer; state = state }
told peer state (Ok (Subscribe doc revision)) = record {
  text = subscribed_line doc revision (may_follow doc revision state);
  peer = record peer { subscriptions = subscribed peer.subscriptions doc revision (may_follow doc revision state) };
  state = state;
}
told peer state (Ok (Unsubscribe doc)) = record {
  text = line_of (unsubscribed_reply doc);
  peer = record peer { subscriptions = without_subscription peer.subscriptions doc };
  state = state;
}
told peer state (Err refusal) = record { text = refusal_line refusal; peer = peer; state = state }

-- what a line is replied
abbrev pub told_of : Peer → State → List ℕ → Answer
told_of peer state line = told peer state (request_of peer.source line)

-- what comes of a byte: nothing while the line continues, at its end the reply, and once LineTooLong where it gets too long
abbrev pub by_event : Conversation → Event × Partial → List ℕ × Conversation
by_event c (Complete, Some bytes) =
    let t = told_of c.peer c.state bytes in
    (t.text, record { line = Some []; peer = t.peer; state = t.state })
by_event c (TooLong, line) = (refusal_line LineTooLong, record c { line = line })
by_event c (event, line) = ([], record c { line = line })

abbrev pub with_input_byte : Conversation → ℕ → List ℕ × Conversation
with_input_byte c byte = by_event c (with_byte c.line byte)

-- What is replied to a piece of the input, and the conversation after it.
abbrev pub replies : Conversation → List ℕ → List ℕ
replies c [] = []
replies c (byte ∷ bytes) = (with_input_byte c byte).0 ++ replies (with_input_byte c byte).1 bytes

abbrev pub conversation_after : Conversation → List ℕ → Conversation
conversation_after c [] = c
conversation_after c (byte ∷ bytes) = conversation_after (with_input_byte c byte).1 bytes

-- nowhere in a text stands the line of NoMemory
abbrev pub FindsMemory : List ℕ → Type 0
FindsMemory text = (front back : List ℕ) → text ≡ front ++ (refusal_line NoMemory ++ back) → ⊥

-- A piece of the input was taken: unless memory runs out, the output is the replies to it, and the conversation is then
-- the one that comes after it.
pub record FedAlone (old : Conversation) (piece : List ℕ) (new : Conversation) (out out' : Option (List ℕ)) : Type 0 where
  pub text : List ℕ
  pub written : Appends out out' text
  pub replied : FindsMemory text → text ≡ replies old piece
  pub goes_on : FindsMemory text → new ≡ conversation_after old piece

-- What is told of a conversation's state, and the conversation after it.
abbrev pub news_of : Conversation → List ℕ
news_of c = news c.peer.subscriptions c.state

abbrev pub after_news : Conversation → Conversation
after_news c = record c { peer = record c.peer { subscriptions = subscriptions_after c.peer.subscriptions c.state } }

-- What comes of one call, and of calls one after another: the replies to the pieces, and the news where they were told.
abbrev pub text_of : Conversation → Call → List ℕ
text_of c (Fed piece) = replies c piece
text_of c Told = news_of c
text_of c Missed = []

abbrev pub after_call : Conversation → Call → Conversation
after_call c (Fed piece) = conversation_after c piece
after_call c Told = after_news c
after_call c Missed = c

-- The news were told, or they were missed though there are some: then nothing was written, and the conversation is unchanged.
pub record HearsAlone (told : Bool) (old new : Conversation) (out out' : Option (List ℕ)) : Type 0 where
  pub text : List ℕ
  pub written : Appends out out' text
  pub heard : text ≡ text_of old (call_of told)
  pub goes_on : new ≡ after_call old (call_of told)
  pub wanted : told ≡ false → has_news old.peer.subscriptions old.state ≡ true

abbrev pub transcript : Conversation → List Call → List ℕ
transcript c [] = []
transcript c (call ∷ calls) = text_of c call ++ transcript (after_call c call) calls

abbrev pub after_calls : Conversation → List Call → Conversation
after_calls c [] = c
after_calls c (call ∷ calls) = after_calls (after_call c call) calls
