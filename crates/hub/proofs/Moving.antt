-- What a board's calls come to behind the lock, and what a session and the writer get of them.
use Rattle.std.proofs.Common.{◌≡◌, ℕ, List, refl, sym, ap, subst, ◌∙◌}
use Rattle.std.specs.Prelude.{true, false, Result, Ok, Err, Bool, length}
use Rattle.std.proofs.lemmas.Bool.{false≢true}
use Rattle.refusal.specs.declared.Refusal.{Refusal}
use Rattle.revision.specs.Command.{Command}
use Rattle.revision.specs.State.{State, fold}
use Rattle.world.specs.Progress.{Progress, Ticket}
use Rattle.world.specs.Submitting.{IsRefusedIn}
use Rattle.world.specs.World.{Entry, takens}
use Rattle.published.specs.Order.{IsLegal}
use Rattle.hub.specs.declared.submit_error.SubmitError.{SubmitError}
use Rattle.hub.specs.declared.submit_error.SubmitError.TheVariants.{Stopped, ByBoard}
use Rattle.hub.specs.Found.{IsGivenAt, IsRefusedAfter}
use Rattle.hub.specs.Given.{GaveTicket, IsStopped, WasBy, WasGiven, as_board, refusal_of}
use Rattle.hub.specs.Legal.{Board, IsOfRun}
use Rattle.hub.specs.Moves.{ComesOff, IsSubmittedTo, IsTakenOff}
use Rattle.hub.specs.Placed.{IsPlaced}
use Rattle.hub.specs.Runs.{Run, Writer, counts_taken}
use Rattle.hub.proofs.Fitting.{longest_fits}
use Rattle.hub.proofs.Settling.{counts_stay}

-- a command that was submitted is neither taken off nor settled by that
pub counts_kept : (start : State) (old : Board) (command : Command) (given : Result Ticket Refusal) (new : Board) → IsSubmittedTo start old command given new
    → (new.progress.taken ≡ old.progress.taken) × (new.progress.settled ≡ old.progress.settled)
counts_kept start old command (Ok ticket) new is =
    let moves = (is.answered is.works).moves in
    let stay = counts_stay old.progress command in
    (ap (λ (p : Progress Entry). p.taken) moves ∙ stay.0, ap (λ (p : Progress Entry). p.settled) moves ∙ stay.1)
counts_kept start old command (Err refusal) new is =
    (ap (λ (b : Board). b.progress.taken) is.unchanged, ap (λ (b : Board). b.progress.settled) is.unchanged)

-- a ticket is of the order behind its command
pub given_there : (start : State) (old : Board) (command : Command) (ticket : Ticket) (new : Board) → IsOfRun start old.progress
    → IsSubmittedTo start old command (Ok ticket) new → GaveTicket start command ticket × IsPlaced start new.progress.order ticket
given_there start old command ticket new run is = ((old.progress, run, (is.answered is.works).ticket), is.placed)

-- a refusal is by the order that was found
refused_there : (start : State) (old : Board) (command : Command) (refusal : Refusal) (new : Board) → IsOfRun start old.progress → old.failed ≡ false
    → IsSubmittedTo start old command (Err refusal) new → IsRefusedAfter start new.progress.order command refusal
refused_there start old command refusal new run works is =
    let state : old.progress.state ≡ fold start (takens new.progress.order) =
    run.history.state ∙ ap (λ s. fold s (takens old.progress.order)) run.begun ∙ ap (λ (b : Board). fold start (takens b.progress.order)) (sym is.unchanged) in
    subst (λ s. IsRefusedIn s command refusal) state (is.answered works).refused

before : (start : State) (old : Board) (command : Command) (refusal : Refusal) (new : Board) → IsSubmittedTo start old command (Err refusal) new
    → (b : Bool) → new.failed ≡ b → old.failed ≡ b
before start old command refusal new is b then = ap (λ (k : Board). k.failed) (sym is.unchanged) ∙ then

module _ {L : Type 0} where
  -- why nothing was submitted
  pub refused_at : (start : State) (old : Board) (command : Command) (refusal : Refusal) (new : Board) → IsSubmittedTo start old command (Err refusal) new
      → (why : SubmitError L) → IsOfRun start old.progress → WasBy new.failed refusal why → IsGivenAt start new.progress.order command (Err why)
  refused_at start old command refusal new is (Stopped token) run failed = tt
  refused_at start old command refusal new is (ByBoard other) run (works, same) =
      subst (IsRefusedAfter start new.progress.order command) (sym same)
      (refused_there start old command refusal new run (before start old command refusal new is false works) is)

  named : (start : State) (old : Board) (command : Command) (refusal : Refusal) (new : Board) → IsSubmittedTo start old command (Err refusal) new
      → (why : SubmitError L) → WasBy new.failed refusal why → refusal ≡ refusal_of why
  named start old command refusal new is (Stopped token) failed = cc (is.failed (before start old command refusal new is true failed))
  named start old command refusal new is (ByBoard other) (works, same) = sym same

  -- and what the board answered
  pub as_answered : (start : State) (old : Board) (command : Command) (refusal : Refusal) (new : Board) → IsSubmittedTo start old command (Err refusal) new
      → (why : SubmitError L) → WasBy new.failed refusal why → IsSubmittedTo start old command (as_board (Err why)) new
  as_answered start old command refusal new is why was =
      subst (λ (r : Refusal). IsSubmittedTo start old command (Err r) new) (named start old command refusal new is why was) is

  pub stopped_by : (start : State) (old : Board) (command : Command) (refusal : Refusal) (new : Board) → IsSubmittedTo start old command (Err refusal) new
      → (why : SubmitError L) → WasBy new.failed refusal why → old.failed ≡ true → IsStopped (Err why)
  stopped_by start old command refusal new is (Stopped token) was failed = tt
  stopped_by start old command refusal new is (ByBoard other) (works, same) failed =
      absurd (false≢true (sym (before start old command refusal new is false works) ∙ failed))

  -- what comes of a command at an order that is a legal history some board of the run gave
  pub was_given : (start : State) (order : List Entry) (command : Command) (answer : Result Ticket (SubmitError L)) → IsLegal start order
      → IsGivenAt start order command answer → WasGiven start command answer
  was_given start order command (Ok ticket) legal given = given.0
  was_given start order command (Err (Stopped token)) legal given = tt
  was_given start order command (Err (ByBoard refusal)) legal given = (
    record { start = start; order = order; state = fold start (takens order); taken = 0; settled = 0 },
    record { begun = refl; history = record { legal = legal; state = refl } },
    given,
  )

-- a run that is taken off a board comes next for the writer, who counts what the board counts
pub comes_off : (old : Board) (writer : Writer) (bytes : ℕ) (run : Run) (new : Board) (after : Writer) → writer.taken ≡ old.progress.taken → IsTakenOff old bytes run new
    → after ≡ counts_taken writer (length run.commands) → ComesOff writer bytes run after
comes_off old writer bytes run new after taken off counts = record {
  fits = longest_fits old.progress bytes run.commands off.longest off.next;
  cap = off.cap;
  place = off.place ∙ sym taken;
  counts = counts;
}
