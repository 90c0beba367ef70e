-- One source's commands to one document, and what becomes of them in a world: numbers, revisions and lengths alone.
use Rattle.std.specs.Prelude.{ℕ, ◌+◌, ◌-◌, ◌<◌, ◌==◌, ◌&&◌, ◌||◌, not, nat_lt, nat_le, if◌then◌else◌, max, Bool, true, false, Option, Some, None, option_map, List, [], ◌∷◌, ◌++◌, length, take, slice_get}
use Rattle.revision.specs.Window.{longest}
use Rattle.world.specs.declared.follower.Place.{Place}
use Rattle.world.specs.declared.follower.Waiting.{Waiting}
use Rattle.world.specs.declared.follower.Happening.{Happening}
use Rattle.world.specs.declared.follower.Happening.TheVariants.{Submit, Take, Device, Publish, Settle, Ack, Crash, Open, Resend}
use Rattle.revision.specs.State.{last_of_all}

-- the order, the tickets and the acknowledgements; the greatest number that was sent; the counts and the two lengths of a world, and
-- whether the store has failed and the machine has stopped
pub record Followed : Type 0 where
  pub order : List Place
  pub tickets : List Waiting
  pub acks : List Waiting
  pub sent : ℕ
  pub taken : ℕ
  pub settled : ℕ
  pub published : ℕ
  pub without : ℕ
  pub with_batch : ℕ
  pub failed : Bool
  pub crashed : Bool

abbrev pub begun_followed : Followed
begun_followed = record {
  order = [];
  tickets = [];
  acks = [];
  sent = 0;
  taken = 0;
  settled = 0;
  published = 0;
  without = 0;
  with_batch = 0;
  failed = false;
  crashed = false;
}

-- The revision that a number made, where it is one of the last of the order, as many as a window has at most. The numbers of an order are
-- its places, counted from 1.
abbrev pub made_by : ℕ → List Place → Option ℕ
made_by number order =
    if nat_lt (length order) (number + longest) then option_map (λ (place : Place). place.revision) (slice_get order (number - 1)) else None

-- a command that is no retry: it is taken as this revision, or it is refused
abbrev pub submitted_as : Followed → ℕ → Option ℕ → Followed
submitted_as followed number None = record followed { sent = max followed.sent number }
submitted_as followed number (Some revision) = record followed {
  order = followed.order ++ record { number = number; revision = revision } ∷ [];
  tickets = followed.tickets ++ record { number = number; again = false; revision = revision; length = length followed.order + 1 } ∷ [];
  sent = max followed.sent number;
}

-- a command, by the revision that its number made: one of the last numbers is a retry, and waits for all that is in the order
abbrev pub submitted_by : Followed → ℕ → Option ℕ → Option ℕ → Followed
submitted_by followed number taken_as None = submitted_as followed number taken_as
submitted_by followed number taken_as (Some revision) = record followed {
  tickets = followed.tickets ++ record { number = number; again = true; revision = revision; length = length followed.order } ∷ [];
  sent = max followed.sent number;
}

abbrev pub submitted : Followed → ℕ → Option ℕ → Followed
submitted followed number taken_as = submitted_by followed number taken_as (made_by number followed.order)

-- one whose number is that of a command
abbrev pub submitted_numbered : Followed → ℕ → Option ℕ → Followed
submitted_numbered followed number taken_as = if nat_le 1 number && nat_le number last_of_all then submitted followed number taken_as else followed

-- one of the last that were sent
abbrev pub resent : Followed → ℕ → Option ℕ → Followed
resent followed number taken_as =
    if nat_le number followed.sent && nat_lt followed.sent (number + longest) then submitted_numbered followed number taken_as else followed

abbrev pub taken_off : Followed → ℕ → Followed
taken_off followed count =
    if nat_lt 0 count && nat_le (followed.taken + count) (length followed.order) && (followed.settled == followed.taken)
    then record followed { taken = followed.taken + count; with_batch = followed.taken + count }
    else followed

abbrev pub written : Followed → Bool → Followed
written followed done =
    if nat_lt followed.without followed.taken && not followed.failed
    then (if done then record followed { without = followed.taken; with_batch = followed.taken } else record followed { failed = true })
    else followed

abbrev pub shown : Followed → Followed
shown followed =
    if nat_lt followed.published followed.taken && (followed.without == followed.taken) then record followed { published = followed.taken } else followed

abbrev pub settled : Followed → Followed
settled followed =
    if nat_lt followed.settled followed.taken && (followed.published == followed.taken) then record followed { settled = followed.taken } else followed

abbrev pub acknowledged_ticket : Followed → Option Waiting → Followed
acknowledged_ticket followed None = followed
acknowledged_ticket followed (Some ticket) =
    if nat_le ticket.length followed.settled then record followed { acks = followed.acks ++ ticket ∷ [] } else followed

abbrev pub acknowledged : Followed → ℕ → Followed
acknowledged followed place = acknowledged_ticket followed (slice_get followed.tickets place)

abbrev pub may_leave : Followed → ℕ → Bool
may_leave followed kept = (kept == followed.without) || (kept == followed.with_batch)

-- so many commands are left, and what memory held is gone
abbrev pub forgotten : Followed → ℕ → Followed
forgotten followed kept = record followed { without = kept; with_batch = kept; tickets = []; failed = false }

abbrev pub stopped : Followed → ℕ → Followed
stopped followed kept = if may_leave followed kept then record (forgotten followed kept) { crashed = true } else followed

abbrev pub opened : Followed → ℕ → Bool → Followed
opened followed kept picked =
    if may_leave followed kept && picked
    then record (forgotten followed kept) {
      order = take kept followed.order;
      taken = kept;
      settled = kept;
      published = kept;
      crashed = false;
    }
    else followed

-- one event of a machine that runs, and one of any machine
abbrev pub running : Followed → Happening → Followed
running followed (Submit number taken_as) = submitted_numbered followed number taken_as
running followed (Take count) = taken_off followed count
running followed (Device done) = written followed done
running followed Publish = shown followed
running followed Settle = settled followed
running followed (Ack place) = acknowledged followed place
running followed (Crash kept) = stopped followed kept
running followed (Open kept picked) = if followed.failed then opened followed kept picked else followed
running followed (Resend number taken_as) = resent followed number taken_as

abbrev pub stopped_step : Followed → Happening → Followed
stopped_step followed (Open kept picked) = opened followed kept picked
stopped_step followed (Submit number taken_as) = followed
stopped_step followed (Take count) = followed
stopped_step followed (Device done) = followed
stopped_step followed Publish = followed
stopped_step followed Settle = followed
stopped_step followed (Ack place) = followed
stopped_step followed (Crash kept) = followed
stopped_step followed (Resend number taken_as) = followed

abbrev pub followed_step : Followed → Happening → Followed
followed_step followed event = if followed.crashed then stopped_step followed event else running followed event

-- There is a ticket more, or an acknowledgement more: a command that is taken or is a retry gives a ticket, an acknowledging adds to
-- the acknowledgements, and no other event adds to either.
abbrev pub Adds : Followed → Followed → Type 0
Adds before after = length before.tickets + length before.acks < length after.tickets + length after.acks
