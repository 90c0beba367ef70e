-- What a session asks of its desk and writes upon its input.
use Rattle.std.specs.Prelude.{◌≡◌, ◌⊎◌, ℕ, ◌++◌, true, List, [], ◌∷◌, Option, Some, Result, Ok, Err}
use Rattle.std.specs.Io.KnownBytes.{Appends}
use Rattle.refusal.specs.declared.Refusal.{Refusal}
use Rattle.refusal.specs.declared.Refusal.TheVariants.{NoMemory, LineTooLong}
use Rattle.revision.specs.Command.{Command}
use Rattle.revision.specs.State.{State}
use Rattle.session.specs.declared.question.Question.{Question}
use Rattle.session.specs.declared.reply.Reply.{Reply}
use Rattle.session.specs.declared.line.Event.TheVariants.{More, TooLong, Complete}
use Rattle.session.specs.declared.request.Request.TheVariants.{Greet, Ask, Read, Subscribe, Unsubscribe}
use Rattle.session.specs.Line.{Partial, with_byte}
use Rattle.session.specs.Request.{request_of}
use Rattle.session.specs.Reply.{greeting, acknowledgement, unsubscribed_reply, subscribed_line, line_of, refusal_line}
use Rattle.session.specs.Reads.{shown_line}
use Rattle.session.specs.Exchange.{Exchange, Answered, Shown, AreAnswered}
use Rattle.session.specs.Subscriptions.{may_follow_shown, subscribed, without_subscription}
use Rattle.session.specs.Output.{AppendsFront}
use Rattle.session.specs.Session.{Peer, Session}

-- the line of what the desk answered to a command
abbrev pub answer_line : Command → Result Reply Refusal → List ℕ
answer_line command (Ok reply) = line_of (acknowledgement command.name command.number reply)
answer_line command (Err refusal) = refusal_line refusal

-- the line that is due, or NoMemory's in its place
abbrev pub IsLine : List ℕ → List ℕ → Type 0
IsLine due text = (text ≡ due) ⊎ (text ≡ refusal_line NoMemory)

-- the line of a reply, which may have found no memory
abbrev pub text_told : {T E : Type 0} → (T → List ℕ) → Result T E → List ℕ
text_told bytes (Ok text) = bytes text
text_told bytes (Err error) = refusal_line NoMemory

-- What comes of a line, in a session of this peer: what is asked of the desk, what is known of the peer after it, and the
-- reply.
pub data IsReplied (peer : Peer) (line : List ℕ) : List Exchange → Peer → List ℕ → Type 0 where
  -- hello presents the source, and is greeted
  Greeted : (name : List ℕ) → request_of peer.source line ≡ Ok (Greet name)
      → IsReplied peer line [] (record peer { source = Some name }) (line_of greeting)
  -- the desk is asked once, for the command that the line is, and the reply tells its answer
  Asked : (command : Command) (answer : Result Reply Refusal) (text : List ℕ) → request_of peer.source line ≡ Ok (Ask command)
      → IsLine (answer_line command answer) text → IsReplied peer line (Answered command answer ∷ []) peer text
  -- the desk shows its state once, and the reply tells of it what is asked for
  WasRead : (doc : List ℕ) (question : Question) (shown : Option State) (text : List ℕ) → request_of peer.source line ≡ Ok (Read doc question)
      → IsLine (shown_line doc question shown) text → IsReplied peer line (Shown shown ∷ []) peer text
  -- the desk shows its state once, and the document is followed from then on, where its state holds the revision
  WasSubscribed : (doc : List ℕ) (revision : ℕ) (shown : Option State) → request_of peer.source line ≡ Ok (Subscribe doc revision)
      → IsReplied peer line (Shown shown ∷ [])
      (record peer { subscriptions = subscribed peer.subscriptions doc revision (may_follow_shown doc revision shown) })
      (subscribed_line doc revision (may_follow_shown doc revision shown))
  -- or out of memory it isn't
  NotSubscribed : (doc : List ℕ) (revision : ℕ) (shown : Option State) → request_of peer.source line ≡ Ok (Subscribe doc revision)
      → IsReplied peer line (Shown shown ∷ []) peer (refusal_line NoMemory)
  -- the document is followed no longer, whether it was or not
  WasUnsubscribed : (doc : List ℕ) → request_of peer.source line ≡ Ok (Unsubscribe doc)
      → IsReplied peer line [] (record peer { subscriptions = without_subscription peer.subscriptions doc }) (line_of (unsubscribed_reply doc))
  -- the first refusal that holds
  Refused : (refusal : Refusal) → request_of peer.source line ≡ Err refusal → IsReplied peer line [] peer (refusal_line refusal)
  -- out of memory the line is not taken
  NotTaken : IsReplied peer line [] peer (refusal_line NoMemory)

-- What comes of one byte of the input.
pub data TakesByte (old : Session) (byte : ℕ) : List Exchange → Session → List ℕ → Type 0 where
  -- the line continues, or the rest of one that is too long is dropped
  LineContinues : (line : Partial) → with_byte old.line byte ≡ (More, line) → TakesByte old byte [] (record old { line = line }) []
  -- the line gets too long, which is replied at once
  LineOverflows : (line : Partial) (text : List ℕ) → with_byte old.line byte ≡ (TooLong, line) → IsLine (refusal_line LineTooLong) text
      → TakesByte old byte [] (record old { line = line }) text
  -- the line ends, is replied, and the next one begins
  LineEnds : (line : List ℕ) (asked : List Exchange) (peer : Peer) (text : List ℕ) → with_byte old.line byte ≡ (Complete, Some line)
      → IsReplied old.peer line asked peer text → TakesByte old byte asked (record old { line = Some []; peer = peer }) text

-- what comes of a piece of the input, byte by byte
abbrev pub Replies : Session → List ℕ → List Exchange → Session → List ℕ → Type 0
Replies old [] asked new text = (asked ≡ []) × (new ≡ old) × (text ≡ [])
Replies old (byte ∷ bytes) asked new text =
    (next : Session) × (first : List Exchange) × (others : List Exchange) × (front : List ℕ) × (back : List ℕ)
    × TakesByte old byte first next front × Replies next bytes others new back × (asked ≡ first ++ others) × (text ≡ front ++ back)

-- What is asked of the desk before one write: commands one after another, or its state is shown once.
abbrev pub IsAtOnce : List Exchange → Type 0
IsAtOnce asked = AreAnswered asked ⊎ ((shown : Option State) × (asked ≡ Shown shown ∷ []))

-- by which exchanges a desk of old state comes to which new one
module _ {D : Type 0} (does : D → Exchange → D → Type 0) where
  -- these passed in order, and the desk came from its old state to the new one
  abbrev pub Asks : D → List Exchange → D → Type 0
  Asks old [] new = new ≡ old
  Asks old (exchange ∷ others) new = (next : D) × does old exchange next × Asks next others new

  -- A session has taken a piece of its input: the output is the replies to it, made with the answers of the desk.
  pub record Feeds (old : Session) (piece : List ℕ) (new : Session) (desk : D) (desk' : D) (out out' : Option (List ℕ)) : Type 0 where
    pub asked : List Exchange
    pub text : List ℕ
    pub replies : Replies old piece asked new text
    pub asks : Asks desk asked desk'
    pub written : Appends out out' text

  -- A write failed within a piece. The replies to its front had been written, and a prefix of the replies to the part after that was
  -- written. The desk was asked exactly for the front and that part, and the part is one write's: nothing was asked after it.
  pub record Stops (old : Session) (piece : List ℕ) (new : Session) (desk desk' : D) (out out' : Option (List ℕ)) : Type 0 where
    pub front : List ℕ
    pub part : List ℕ
    pub rest : List ℕ
    pub whole : piece ≡ front ++ (part ++ rest)
    pub mid : Session
    pub desk_mid : D
    pub out_mid : Option (List ℕ)
    pub fed : Feeds old front mid desk desk_mid out out_mid
    pub asked : List Exchange
    pub text : List ℕ
    pub next : Session
    pub replies : Replies mid part asked next text
    pub at_once : IsAtOnce asked
    pub asks : Asks desk_mid asked desk'
    pub written : AppendsFront out_mid out' text
    pub ended : new ≡ record next { ended = true }
