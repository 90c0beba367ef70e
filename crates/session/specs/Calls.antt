-- What a session is called for, one call after another, and what comes of it.
use Rattle.std.specs.Prelude.{◌≡◌, ◌⊎◌, ℕ, ◌++◌, Bool, true, false, List, [], ◌∷◌, Option}
use Rattle.std.specs.Io.KnownBytes.{Appends}
use Rattle.revision.specs.State.{State}
use Rattle.session.specs.Exchange.{Exchange, Shown}
use Rattle.session.specs.News.{news_shown, subscriptions_shown, MayBeMissed}
use Rattle.session.specs.Session.{Session}
use Rattle.session.specs.Output.{AppendsFront}
use Rattle.session.specs.Replies.{Replies, Asks}

pub data Call : Type 0 where
  -- it was fed a piece of the input
  Fed : (piece : List ℕ) → Call
  -- it told its news
  Told : Call
  -- it was to tell its news, and was shown no state or found no memory for them: nothing is told, and the next call tells all of it
  Missed : Call

-- a session whose subscriptions are these
abbrev pub with_subscriptions : Session → List (List ℕ × ℕ) → Session
with_subscriptions session subscriptions = record session { peer = record session.peer { subscriptions = subscriptions } }

-- What comes of a call: what passes between the session and its desk, the session after it, and what is written.
pub data ComesOf (old : Session) : Call → List Exchange → Session → List ℕ → Type 0 where
  OfPiece : (piece : List ℕ) (asked : List Exchange) (new : Session) (text : List ℕ) → Replies old piece asked new text → ComesOf old (Fed piece) asked new text
  OfNews : (shown : Option State)
      → ComesOf old Told (Shown shown ∷ []) (with_subscriptions old (subscriptions_shown old.peer.subscriptions shown)) (news_shown old.peer.subscriptions shown)
  OfMissed : (shown : Option State) → MayBeMissed old.peer.subscriptions shown → ComesOf old Missed (Shown shown ∷ []) old []

-- what comes of calls, one after another
abbrev pub Calls : Session → List Call → List Exchange → Session → List ℕ → Type 0
Calls old [] asked new text = (asked ≡ []) × (new ≡ old) × (text ≡ [])
Calls old (call ∷ calls) asked new text =
    (next : Session) × (first : List Exchange) × (others : List Exchange) × (front : List ℕ) × (back : List ℕ)
    × ComesOf old call first next front × Calls next calls others new back × (asked ≡ first ++ others) × (text ≡ front ++ back)

-- the call for the news, by whether they were told
abbrev pub call_of : Bool → Call
call_of true = Told
call_of false = Missed

-- a call for the news: they are told or missed
abbrev pub IsForNews : Call → Type 0
IsForNews call = (call ≡ Told) ⊎ (call ≡ Missed)

-- by which exchanges a desk of old state comes to which new one
module _ {D : Type 0} (does : D → Exchange → D → Type 0) where
  -- A session was called, and what comes of it was written.
  pub record Passes (old : Session) (call : Call) (new : Session) (desk desk' : D) (out out' : Option (List ℕ)) : Type 0 where
    pub asked : List Exchange
    pub text : List ℕ
    pub comes : ComesOf old call asked new text
    pub asks : Asks does desk asked desk'
    pub written : Appends out out' text

  -- the news of a session were told or missed
  abbrev pub TellsNews : Session → Session → D → D → Option (List ℕ) → Option (List ℕ) → Type 0
  TellsNews old new desk desk' out out' = (call : Call) × IsForNews call × Passes old call new desk desk' out out'

  -- A write of the news failed: a prefix of them was written.
  pub record StopsNews (old new : Session) (desk desk' : D) (out out' : Option (List ℕ)) : Type 0 where
    pub shown : Option State
    pub shows : does desk (Shown shown) desk'
    pub written : AppendsFront out out' (news_shown old.peer.subscriptions shown)
    pub ended : new ≡ record old { ended = true }
