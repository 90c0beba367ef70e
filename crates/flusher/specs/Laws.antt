-- What follows of batches, for the crates above: each law is promised by a function of `laws`.
use Rattle.std.specs.Prelude.{◌≡◌, ◌≤◌, ◌<◌, ◌^◌, ℕ, List, ◌++◌, length}
use Rattle.revision.specs.Command.{Taken}
use Rattle.revision.specs.State.{State, fold}
use Rattle.journal.specs.BatchSpelling.{batch_width}
use Rattle.recovery.specs.Found.{commands_of}
use Rattle.recovery.specs.Open.{FitsSlot, IsWithOrWithout}
use Rattle.flusher.specs.Batches.{IsBeginning}
use Rattle.flusher.specs.Flushers.{cap_of}

-- a batch of as many bytes as a flusher's cap fits a slot, and its count has four bytes
abbrev pub CapFitsSlot : Type 0
CapFitsSlot = (state : State) (batch : List Taken) → batch_width batch ≤ cap_of state → (length batch < 2 ^ 32) × FitsSlot state batch

-- the commands of batches, and of more batches behind them
abbrev pub CommandsJoined : Type 0
CommandsJoined = (first more : List (List Taken)) → commands_of (first ++ more) ≡ commands_of first ++ commands_of more

-- a content that represents a prefix of batches with so many commands at least represents one with fewer at least
abbrev pub FewerAtLeast : Type 0
FewerAtLeast =
    (least less : ℕ) (start : State) (batches : List (List Taken)) (content : List ℕ) → less ≤ least → IsBeginning least start batches content
    → IsBeginning less start batches content

-- and a prefix of more batches, where those come
abbrev pub MoreBatches : Type 0
MoreBatches =
    (least : ℕ) (start : State) (batches with_more l : List (List Taken)) (content : List ℕ) → with_more ≡ batches ++ l
    → IsBeginning least start batches content → IsBeginning least start with_more content

-- During a write of batches after others that are committed: a content that represents the state without them or with them represents
-- a prefix of all.
abbrev pub WithinWrite : Type 0
WithinWrite =
    (least : ℕ) (start state : State) (batches told l : List (List Taken)) (content : List ℕ) → batches ≡ told ++ l
    → least ≤ length (commands_of told) → state ≡ fold start (commands_of told) → IsWithOrWithout state (commands_of l) content
    → IsBeginning least start batches content
