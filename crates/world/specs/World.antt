-- All that a history of the server has made: what stands in memory, what a crash may leave, and what was promised.
use Rattle.std.specs.Prelude.{ℕ, ◌==◌, ◌&&◌, bytes_eq, if◌then◌else◌, max, Bool, false, List, [], ◌∷◌, map}
use Rattle.revision.specs.Command.{Taken, Command}
use Rattle.revision.specs.State.{State}
use Rattle.world.specs.Progress.{Progress, Ticket}

-- what the order keeps: the command, and what was taken of it
pub record Entry : Type 0 where
  pub command : Command
  pub taken : Taken

abbrev pub entry_of : Command → Taken → Entry
entry_of command taken = record { command = command; taken = taken }

abbrev pub takens : List Entry → List Taken
takens entries = map (λ (entry : Entry). entry.taken) entries

-- The board; what readers are shown; the two lengths of the order that a crash may leave, without the batch that is being
-- written and with it; the tickets that are out; all acknowledgements and all commands that were sent since the world began; the
-- revisions of documents that were composed; whether the store has failed, and whether the machine has stopped.
pub record World : Type 0 where
  pub board : Progress Entry
  pub published : List Taken
  pub without : ℕ
  pub with_batch : ℕ
  pub tickets : List Ticket
  pub acks : List Ticket
  pub sent : List Command
  pub composed : List (ℕ × ℕ)
  pub failed : Bool
  pub crashed : Bool

-- a store that was just opened
abbrev pub begun : State → World
begun start = record {
  board = record { start = start; order = []; state = start; taken = 0; settled = 0 };
  published = [];
  without = 0;
  with_batch = 0;
  tickets = [];
  acks = [];
  sent = [];
  composed = [];
  failed = false;
  crashed = false;
}

-- a command of this source to the document of this name
abbrev pub is_of : List ℕ → List ℕ → Command → Bool
is_of name source command = bytes_eq command.name name && bytes_eq command.source source

-- the greatest number that a source sent to a document, 0 where it sent none
abbrev pub last_sent : List ℕ → List ℕ → List Command → ℕ
last_sent name source [] = 0
last_sent name source (first ∷ others) =
    if is_of name source first then max first.number (last_sent name source others) else last_sent name source others

-- the greatest revision at which a document was composed, 0 where it wasn't
abbrev pub last_composed : ℕ → List (ℕ × ℕ) → ℕ
last_composed document [] = 0
last_composed document (first ∷ others) =
    if first.0 == document then max first.1 (last_composed document others) else last_composed document others
