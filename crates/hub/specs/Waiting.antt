-- What lies under a hub's lock: the board, those who wait at places until so many commands are settled, and the turns of batches at which
-- they are woken; and who is told and woken when a batch is settled.
use Rattle.std.specs.Prelude.{◌≡◌, ◌≤◌, ◌<◌, ◌+◌, ◌^◌, ◌-◌, ◌%◌, ℕ, Bool, true, false, not, List, map, get_or, min, max, nat_le, if◌then◌else◌}
use Rattle.hub.specs.declared.waiting.Awaited.{Awaited}
use Rattle.hub.specs.Legal.{Board}

-- the turn of the batch that is taken off next, the turn of the one that was taken off last, and whether no other one is being written
pub record Turns : Type 0 where
  pub next : ℕ
  pub writing : ℕ
  pub alone : Bool

-- the board, what is awaited at each place, the turns, whether the end was called, and whether the writer was told so with nothing left to take
-- off
pub record Locked : Type 0 where
  pub board : Board
  pub awaited : List Awaited
  pub turns : Turns
  pub ended : Bool
  pub over : Bool

-- Nothing else has changed than the order, and what is awaited.
abbrev pub OrdersAlone : Locked → Locked → Type 0
OrdersAlone old new = new ≡ record old { board = record old.board { progress = new.board.progress }; awaited = new.awaited }

-- what is noted at a place where nobody waits
abbrev pub nobody : Awaited
nobody = record { least = 2 ^ 64 - 1; most = 0 }

-- what is noted once somebody waits there for so many commands, too
abbrev pub and_for : Awaited → ℕ → Awaited
and_for awaited length = record { least = min awaited.least length; most = max awaited.most length }

-- whether a length that is awaited at a place may be settled
abbrev pub is_covered : ℕ → Awaited → Bool
is_covered settled awaited = nat_le awaited.least settled

-- what is noted at a place once so many commands are settled and its seats are told of that
abbrev pub rest_of : ℕ → Awaited → Awaited
rest_of settled awaited = if nat_le awaited.most settled then nobody else record { least = settled + 1; most = awaited.most }

-- what is noted at a place once so many commands are settled
abbrev pub still_awaited : ℕ → Awaited → Awaited
still_awaited settled awaited = if is_covered settled awaited then rest_of settled awaited else awaited

-- Exactly those places are told where the least that is awaited is settled, and what is noted there from then on is what isn't settled.
pub record AreWoken (settled : ℕ) (old new : List Awaited) (woken : List Bool) : Type 0 where
  pub covered : woken ≡ map (is_covered settled) old
  pub awaited : new ≡ map (still_awaited settled) old

-- somebody who waits at a place for so many commands is noted there
abbrev pub IsNoted : Awaited → ℕ → Type 0
IsNoted awaited length = (awaited.least ≤ length) × (length ≤ awaited.most)

-- Nobody is forgotten: whoever was noted at a place is told where that is settled, and is noted there still where it isn't.
abbrev pub NobodyIsForgotten : ℕ → List Awaited → List Awaited → List Bool → Type 0
NobodyIsForgotten settled old new woken =
    (place length : ℕ) → place < 64 → IsNoted (get_or old place nobody) length
    → (length ≤ settled → get_or woken place false ≡ true) × (settled < length → IsNoted (get_or new place nobody) length)

-- The turns once a batch is taken off, while others are being written or not, and with commands left behind it or not: what is left has the
-- same turn, and what comes after has the next one.
abbrev pub turned : Turns → Bool → Bool → Turns
turned turns busy rest = record { next = if rest then turns.next else (turns.next + 1) % 8; writing = turns.next; alone = not busy }

-- Somebody who waits for so many commands waits at the right turn: where these are taken off and not settled, at that of the batch that is
-- being written, if it is the only one; and where they aren't taken off, at that of the next one.
pub record WaitsRightly (turns : Turns) (settled taken turn length : ℕ) : Type 0 where
  pub writing : settled < length → length ≤ taken → turns.alone ≡ true → turn ≡ turns.writing
  pub next : taken < length → turn ≡ turns.next

-- whoever waits rightly for what is settled by a batch that was taken off is woken
abbrev pub WakesAll : Turns → List Bool → Type 0
WakesAll turns woken =
    (settled taken now turn length : ℕ) → turn < 8 → WaitsRightly turns settled taken turn length → settled < length → length ≤ now → now ≤ taken
    → get_or woken turn false ≡ true

-- whoever waits rightly for some of the order still does once more of it is taken off
abbrev pub StillRightly : Turns → Turns → ℕ → ℕ → ℕ → ℕ → Type 0
StillRightly old new settled taken now ordered =
    (turn length : ℕ) → length ≤ ordered → WaitsRightly old settled taken turn length → WaitsRightly new settled now turn length
