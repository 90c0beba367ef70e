-- What comes of calls one after another, for the crates above: each law is promised by a function of `laws`.
use Rattle.std.specs.Prelude.{◌≡◌, ◌<◌, ◌+◌, ℕ, ◌++◌, true, List, [], ◌∷◌, length, take, set, get_or, Option, Result, OnOk, OnErr}
use Rattle.std.specs.Io.KnownBytes.{Appends}
use Rattle.refusal.specs.declared.Refusal.{Refusal}
use Rattle.revision.specs.Command.{Taken}
use Rattle.revision.specs.State.{State, grows, grown}
use Rattle.session.specs.declared.reply.Reply.{Reply}
use Rattle.session.specs.declared.sent.Sent.{Sent}
use Rattle.session.specs.Session.{Session}
use Rattle.session.specs.Exchange.{Exchange, Answered}
use Rattle.session.specs.Replies.{Asks}
use Rattle.session.specs.Ahead.{commands_of, exchanges_of}
use Rattle.session.specs.Calls.{Call, ComesOf, Calls}
use Rattle.session.specs.Shelf.{IsLater}

-- what comes of one call
abbrev pub CallsOfOne : Type 0
CallsOfOne =
    (old new : Session) (call : Call) (asked : List Exchange) (text : List ℕ) → ComesOf old call asked new text → Calls old (call ∷ []) asked new text

-- what comes of calls, and then of others, comes of them all
abbrev pub CallsJoined : Type 0
CallsJoined =
    (front back : List Call) (old mid new : Session) (a b : List Exchange) (t u : List ℕ) → Calls old front a mid t → Calls mid back b new u
    → Calls old (front ++ back) (a ++ b) new (t ++ u)

-- two writes, one after the other, write both texts
abbrev pub WritesJoined : Type 0
WritesJoined = (a b c : Option (List ℕ)) (front back : List ℕ) → Appends a b front → Appends b c back → Appends a c (front ++ back)

-- a state that took a command where a call succeeded, and else stayed unchanged, is later
abbrev pub LaterBy : (A E : Type 0) → Type 0
LaterBy A E =
    (old new : State) (taken : Taken) (result : Result A E) → grows old taken ≡ true → OnOk result (new ≡ grown old taken)
    → OnErr result (new ≡ old) → IsLater old new

module _ {D : Type 0} (does : D → Exchange → D → Type 0) where
  -- what is asked of a desk, and then more
  abbrev pub AsksJoined : Type 0
  AsksJoined = (a b : List Exchange) (old mid new : D) → Asks does old a mid → Asks does mid b new → Asks does old (a ++ b) new

  -- Of commands that were sent ahead one more was asked, and its answer noted: the commands stay, and so many exchanges passed with the
  -- desk.
  abbrev pub OneMoreAsked : Type 0
  OneMoreAsked =
      (old now new : D) (sent : List Sent) (i : ℕ) (asked item : Sent) (answer : Result Reply Refusal) → i < length sent
      → asked ≡ get_or sent i asked → item ≡ get_or sent i item → Asks does old (exchanges_of (take i sent)) now
      → does now (Answered asked.command answer) new
      → (commands_of (set sent i (record { command = item.command; answer = answer })) ≡ commands_of sent)
      × Asks does old (exchanges_of (take (i + 1) (set sent i (record { command = item.command; answer = answer })))) new
