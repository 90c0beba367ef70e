-- What ties the order of the program, and the commits of its batches, to a world.
use Rattle.std.specs.Prelude.{◌≡◌, ℕ, ◌+◌, take}
use Rattle.revision.specs.Command.{Taken, Command}
use Rattle.revision.specs.State.{fold}
use Rattle.world.specs.Progress.{Progress, Ticket, submitted, ticket_of, can_take, next_run, taken_more, can_settle, settled_more, taken_beyond, can_ack}
use Rattle.world.specs.World.{Entry, entry_of, takens}

-- the progress that keeps of each command only what was taken of it
abbrev pub progress_of : Progress Entry → Progress Taken
progress_of progress = record { start = progress.start; order = takens progress.order; state = progress.state; taken = progress.taken; settled = progress.settled }

-- It answers and moves as that of the world does: at a command, at taking off, at settling, at publishing and at acknowledging.
pub record MovesAlike (progress : Progress Entry) : Type 0 where
  pub command : (c : Command) → submitted (λ t. t) (progress_of progress) c ≡ progress_of (submitted (entry_of c) progress c)
  pub ticket : (c : Command) → ticket_of (progress_of progress) c ≡ ticket_of progress c
  pub may_take : (count : ℕ) → can_take (progress_of progress) count ≡ can_take progress count
  pub batch : (count : ℕ) → next_run (progress_of progress) count ≡ takens (next_run progress count)
  pub taking : (count : ℕ) → taken_more (progress_of progress) count ≡ progress_of (taken_more progress count)
  pub may_settle : (count told : ℕ) → can_settle (progress_of progress) count told ≡ can_settle progress count told
  pub settling : (count : ℕ) → settled_more (progress_of progress) count ≡ progress_of (settled_more progress count)
  pub publishing : (seen : ℕ) → taken_beyond (progress_of progress) seen ≡ takens (taken_beyond progress seen)
  pub acknowledging : (t : Ticket) → can_ack (progress_of progress) t ≡ can_ack progress t

abbrev pub SameProgress : Type 0
SameProgress = (progress : Progress Entry) → MovesAlike progress

-- The commands that are taken off and the next ones after them make the same state of the start at once as one after the other: a
-- commit may add its batch to the state without it. It says nothing of crashes.
abbrev pub BatchGoesOn : Type 0
BatchGoesOn = (progress : Progress Taken) (count : ℕ)
    → fold progress.start (take (progress.taken + count) progress.order) ≡ fold (fold progress.start (take progress.taken progress.order)) (next_run progress count)
