-- What desks exchange with the sessions of those whom they serve.
use Rattle.std.specs.Prelude.{◌≡◌, ℕ, true, false, List, [], ◌∷◌, ◌++◌}
use mathlib.Core.List.{IsPrefix}
use Rattle.session.specs.Session.{Session}
use Rattle.session.specs.Exchange.{Exchange}
use Rattle.session.specs.Calls.{Call, Fed, Calls}
use Rattle.session.specs.Replies.{Asks}
use Rattle.serving.specs.Turns.{beginning, InputPiece, AreNews, AreTurns}
use Rattle.sockets.specs.declared.parting.Parting.{Parting}
use Rattle.sockets.specs.declared.raw.Visit.{Visit}
use Rattle.sockets.specs.Socket as socket
use Rattle.sockets.specs.Socket.{Event, pieces_of, bytes_of}
use Rattle.sockets.specs.Host.{reads_in, writes_in}
use Rattle.sockets.specs.Ends.{EndsBetween, ends_in_write, was_closed}

-- These are turns, and the last one may have been broken off: a part of its piece was fed, and then one part more.
pub data AreTurnsSoFar : List InputPiece → List Call → Type 0 where
  no_turn : AreTurnsSoFar [] []
  in_piece : (piece : InputPiece) (front part rest : List ℕ) → piece.bytes ≡ front ++ (part ++ rest) → AreTurnsSoFar (piece ∷ []) (Fed front ∷ Fed part ∷ [])
  turn_before : (piece : InputPiece) (pieces : List InputPiece) (news calls : List Call) → AreNews piece.is_cut news → AreTurnsSoFar pieces calls
      → AreTurnsSoFar (piece ∷ pieces) (Fed piece.bytes ∷ (news ++ calls))

-- What a peer was sent in a conversation is the replies to what was got of it, in order, and the news, told after each read and each wait,
-- where these were asked; and it ended for a cause, until when the connection wasn't shut down. Where a write failed it was a prefix of that.
pub data IsConversation (hall : ℕ) (visit : Visit) (asked : List Exchange) : Type 0 where
  Whole : (why : Parting) (calls : List Call) (last : Session) → EndsBetween hall why (reads_in visit) → was_closed (writes_in visit) ≡ false → AreTurns (pieces_of (reads_in visit)) calls
      → Calls beginning calls asked last (bytes_of (writes_in visit)) → IsConversation hall visit asked
  Cut : (why : Parting) (writes : List Event) (calls : List Call) (last : Session) (text : List ℕ) → writes_in visit ≡ socket.Closed ∷ writes
      → was_closed writes ≡ false → ends_in_write hall why writes ≡ true → AreTurnsSoFar (pieces_of (reads_in visit)) calls → Calls beginning calls asked last text
      → IsPrefix (bytes_of writes) text → IsConversation hall visit asked

-- these visits were conversations, one after another, in which these were asked
pub data AreConversations (hall : ℕ) : List Visit → List Exchange → Type 0 where
  in_none : AreConversations hall [] []
  in_one_more : (visit : Visit) (visits : List Visit) (asked others : List Exchange) → IsConversation hall visit asked
      → AreConversations hall visits others → AreConversations hall (visit ∷ visits) (asked ++ others)

module _ {D : Type 0} (does : D → Exchange → D → Type 0) where
  -- A desk of this hall had a conversation with a peer.
  pub record Talks (hall : ℕ) (visit : Visit) (desk desk' : D) : Type 0 where
    pub asked : List Exchange
    pub asks : Asks does desk asked desk'
    pub conversation : IsConversation hall visit asked

  -- A desk of this hall has served these visits: what passed between it and those whom it served is what is asked in their conversations, one after another.
  pub record ServesVisits (hall : ℕ) (visits : List Visit) (desk desk' : D) : Type 0 where
    pub asked : List Exchange
    pub asks : Asks does desk asked desk'
    pub conversations : AreConversations hall visits asked

  -- each desk has served its visits, in their order
  abbrev pub HaveServed : ℕ → List D → List (List Visit) → List D → Type 0
  HaveServed hall [] [] [] = Unit {0}
  HaveServed hall (desk ∷ desks) (visits ∷ others) (desk' ∷ desks') = ServesVisits hall visits desk desk' × HaveServed hall desks others desks'
  HaveServed hall [] [] (desk' ∷ desks') = ⊥
  HaveServed hall [] (visits ∷ others) desks' = ⊥
  HaveServed hall (desk ∷ desks) [] desks' = ⊥
  HaveServed hall (desk ∷ desks) (visits ∷ others) [] = ⊥

  -- in some one hall
  abbrev pub HaveServedInHall : List D → List (List Visit) → List D → Type 0
  HaveServedInHall desks visits desks' = (hall : ℕ) × HaveServed hall desks visits desks'
