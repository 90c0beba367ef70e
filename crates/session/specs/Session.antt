-- A session as callers see it.
use Rattle.std.specs.Prelude.{ℕ, Bool, List, Option}
use Rattle.session.specs.Line.{Partial}
use Rattle.session.specs.Subscriptions.{Subscriptions}

-- what is known of the peer: the source that it has presented itself as, and the documents that it follows
pub record Peer : Type 0 where
  pub source : Option (List ℕ)
  pub subscriptions : Subscriptions

-- the line so far, the peer, and whether a write failed
pub record Session : Type 0 where
  pub line : Partial
  pub peer : Peer
  pub ended : Bool
