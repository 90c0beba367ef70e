-- How a world at rest continues by the events of one call.
use Rattle.std.proofs.Common.{◌≡◌, ◌≤◌, ℕ, ◌+◌, ◌-◌, true, false, ◌&&◌, Some, None, List, [], ◌∷◌, ◌++◌, length, take, drop, refl, sym, ◌∙◌, ap, arith}
use Rattle.std.specs.Prelude.{◌==◌, nat_lt, nat_le, not, slice_get, option_to_list}
use Rattle.std.proofs.lemmas.Bool.{cond-true, cond-false, cond_both, and_from, lt-ltb, le-leb, eq-eqb}
use Rattle.std.proofs.lemmas.List.{take-append-le, take-append-drop, take-take, length-take-le, length-map, map-append}
use Rattle.revision.specs.Command.{Taken, Command}
use Rattle.revision.specs.State.{newest_revision, fold}
use Rattle.revision.specs.Acceptance.{Answer, Takes, Repeats, Refuses, answer}
use Rattle.world.specs.Progress.{Progress, Ticket, submitted, submitted_by, ticket_of, ticket_by, can_take, can_settle, can_ack, taken_more, settled_more}
use Rattle.world.specs.Event.{Done, Submit, Take, Device, Publish, Settle, Ack, Compose}
use Rattle.world.specs.World.{Entry, entry_of, takens, World}
use Rattle.world.specs.Step.{is_numbered, with_command, acknowledged, step, run}
use Rattle.lives.specs.Schedule.{at_rest}
pub use Rattle.world.proofs.CallerLemmas.{run-append}

module _ (board : Progress Entry) (tickets acks : List Ticket) (sent : List Command) (composed : List (ℕ × ℕ)) where
  -- a command is sent
  pub submit_rests : (command : Command) → is_numbered command ≡ true → board.settled ≤ length board.order
      → run (at_rest board tickets acks sent composed) (Submit command ∷ [])
      ≡ at_rest (submitted (entry_of command) board command) (tickets ++ option_to_list (ticket_of board command)) acks (sent ++ command ∷ []) composed
  submit_rests command numbered within =
      cond-true (is_numbered command) (with_command (at_rest board tickets acks sent composed) command) (at_rest board tickets acks sent composed) numbered
      ∙ by_answer (answer board.state command)
    where
      by_answer : (a : Answer)
          → record (at_rest board tickets acks sent composed) { board = submitted_by (entry_of command) board a; tickets = tickets ++ option_to_list (ticket_by board command a); sent = sent ++ command ∷ [] }
          ≡ at_rest (submitted_by (entry_of command) board a) (tickets ++ option_to_list (ticket_by board command a)) acks (sent ++ command ∷ []) composed
      by_answer (Takes taken) =
          ap (λ (shown : List Taken). record (at_rest (submitted_by (entry_of command) board (Takes taken)) (tickets ++ option_to_list (ticket_by board command (Takes taken))) acks (sent ++ command ∷ []) composed) { published = shown })
          (ap takens (sym (take-append-le board.settled board.order (entry_of command taken ∷ []) within)))
      by_answer (Repeats revision) = refl
      by_answer (Refuses refusal) = refl

  abbrev taken_off : ℕ → World
  taken_off count = record (at_rest board tickets acks sent composed) { board = taken_more board count; with_batch = board.taken + count }

  abbrev done : ℕ → World
  done count = record (at_rest board tickets acks sent composed) { board = taken_more board count; without = board.taken + count; with_batch = board.taken + count }

  abbrev shown_then : ℕ → List Taken
  shown_then count = takens (take board.settled board.order) ++ takens (drop (length (takens (take board.settled board.order))) (take (board.taken + count) board.order))

  abbrev told : ℕ → World
  told count = record (at_rest board tickets acks sent composed) { board = taken_more board count; published = shown_then count; without = board.taken + count; with_batch = board.taken + count }

  abbrev ended : ℕ → World
  ended count = record (at_rest board tickets acks sent composed) {
    board = settled_more (taken_more board count) ((board.taken + count) - board.settled);
    published = shown_then count;
    without = board.taken + count;
    with_batch = board.taken + count;
  }

  -- a batch is taken off, written, shown and settled
  pub turn_rests : (count : ℕ) → 1 ≤ count → board.taken ≡ board.settled → board.taken + count ≤ length board.order
      → run (at_rest board tickets acks sent composed) (Take count ∷ Device Done ∷ Publish ∷ Settle ∷ [])
      ≡ at_rest (settled_more (taken_more board count) count) tickets acks sent composed
  turn_rests count some calm long =
      ap (λ (w : World). step (step (step w (Device Done)) Publish) Settle) first ∙ (ap (λ (w : World). step (step w Publish) Settle) second ∙ (ap (λ (w : World). step w Settle) third ∙ (fourth ∙ last)))
    where
      shown_is : length (takens (take board.settled board.order)) ≡ board.settled
      shown_is = length-map (take board.settled board.order) (λ (e : Entry). e.taken) ∙ length-take-le board.settled board.order (omega (arith, calm, long))

      up : board.taken + count ≡ board.settled + count
      up = ap (λ (n : ℕ). n + count) calm

      all_is : takens (take board.settled board.order) ++ takens (drop (length (takens (take board.settled board.order))) (take (board.taken + count) board.order)) ≡ takens (take (board.settled + count) board.order)
      all_is =
          ap (λ (n : ℕ). takens (take board.settled board.order) ++ takens (drop n (take (board.taken + count) board.order))) shown_is
          ∙ (ap (λ (n : ℕ). takens (take board.settled board.order) ++ takens (drop board.settled (take n board.order))) up
          ∙ (ap (λ (l : List Entry). takens l ++ takens (drop board.settled (take (board.settled + count) board.order))) (sym (take-take board.settled (board.settled + count) board.order (omega arith)))
          ∙ (sym (map-append (λ (e : Entry). e.taken) (take board.settled (take (board.settled + count) board.order)) (drop board.settled (take (board.settled + count) board.order)))
          ∙ ap takens (take-append-drop board.settled (take (board.settled + count) board.order)))))

      batch_is : (board.taken + count) - board.settled ≡ count
      batch_is = omega (arith, calm)

      all_length : length (takens (take board.settled board.order) ++ takens (drop (length (takens (take board.settled board.order))) (take (board.taken + count) board.order))) ≡ board.settled + count
      all_length = ap length all_is ∙ (length-map (take (board.settled + count) board.order) (λ (e : Entry). e.taken) ∙ length-take-le (board.settled + count) board.order (omega (arith, calm, long)))

      first : step (at_rest board tickets acks sent composed) (Take count) ≡ (taken_off count)
      first = cond-true (can_take board count && (board.settled == board.taken)) (taken_off count) (at_rest board tickets acks sent composed)
          (and_from (can_take board count) (board.settled == board.taken)
          (and_from (nat_lt 0 count) (nat_le (board.taken + count) (length board.order)) (lt-ltb 0 count (omega (arith, some))) (le-leb (board.taken + count) (length board.order) long))
          (eq-eqb board.settled board.taken (sym calm)))

      second : step (taken_off count) (Device Done) ≡ (done count)
      second = cond-true (nat_lt board.settled (board.taken + count) && not false) (done count) (taken_off count)
          (and_from (nat_lt board.settled (board.taken + count)) (not false) (lt-ltb board.settled (board.taken + count) (omega (arith, calm, some))) refl)

      third : step (done count) Publish ≡ (told count)
      third = cond-true (nat_lt (length (takens (take board.settled board.order))) (board.taken + count) && ((board.taken + count) == (board.taken + count))) (told count) (done count)
          (and_from (nat_lt (length (takens (take board.settled board.order))) (board.taken + count)) ((board.taken + count) == (board.taken + count))
          (lt-ltb (length (takens (take board.settled board.order))) (board.taken + count) (omega (arith, shown_is, calm, some))) (eq-eqb (board.taken + count) (board.taken + count) refl))

      fourth : step (told count) Settle ≡ (ended count)
      fourth = cond-true (can_settle (taken_more board count) ((board.taken + count) - board.settled) (length (shown_then count))) (ended count) (told count)
          (and_from (nat_lt 0 ((board.taken + count) - board.settled) && nat_le (board.settled + ((board.taken + count) - board.settled)) (board.taken + count)) (length (shown_then count) == board.settled + ((board.taken + count) - board.settled))
          (and_from (nat_lt 0 ((board.taken + count) - board.settled)) (nat_le (board.settled + ((board.taken + count) - board.settled)) (board.taken + count))
          (lt-ltb 0 ((board.taken + count) - board.settled) (omega (arith, calm, some)))
          (le-leb (board.settled + ((board.taken + count) - board.settled)) (board.taken + count) (omega (arith, calm, some))))
          (eq-eqb (length (shown_then count)) (board.settled + ((board.taken + count) - board.settled)) (all_length ∙ ap (λ (n : ℕ). board.settled + n) (sym batch_is))))

      last : (ended count) ≡ at_rest (settled_more (taken_more board count) count) tickets acks sent composed
      last = λ i. record {
        board = settled_more (taken_more board count) (batch_is i);
        published = all_is i;
        without = up i;
        with_batch = up i;
        tickets = tickets;
        acks = acks;
        sent = sent;
        composed = composed;
        failed = false;
        crashed = false;
      }

  -- a ticket is acknowledged
  pub ack_rests : (at : ℕ) (ticket : Ticket) → slice_get tickets at ≡ Some ticket → can_ack board ticket ≡ true
      → run (at_rest board tickets acks sent composed) (Ack at ∷ []) ≡ at_rest board tickets (acks ++ ticket ∷ []) sent composed
  ack_rests at ticket is can =
      ap (acknowledged (at_rest board tickets acks sent composed)) is
      ∙ cond-true (can_ack board ticket) (at_rest board tickets (acks ++ ticket ∷ []) sent composed) (at_rest board tickets acks sent composed) can

  -- or not, where it isn't settled, or isn't there
  pub ack_waits : (at : ℕ) (ticket : Ticket) → slice_get tickets at ≡ Some ticket → can_ack board ticket ≡ false
      → run (at_rest board tickets acks sent composed) (Ack at ∷ []) ≡ at_rest board tickets acks sent composed
  ack_waits at ticket is cannot =
      ap (acknowledged (at_rest board tickets acks sent composed)) is
      ∙ cond-false (can_ack board ticket) (at_rest board tickets (acks ++ ticket ∷ []) sent composed) (at_rest board tickets acks sent composed) cannot

  pub ack_missing : (at : ℕ) → slice_get tickets at ≡ None → run (at_rest board tickets acks sent composed) (Ack at ∷ []) ≡ at_rest board tickets acks sent composed
  ack_missing at none = ap (acknowledged (at_rest board tickets acks sent composed)) none

  -- a document is composed, where that is possible
  pub compose_rests : (document revision : ℕ) → (more : List (ℕ × ℕ)) × (run (at_rest board tickets acks sent composed) (Compose document revision ∷ []) ≡ at_rest board tickets acks sent more)
  compose_rests document revision =
      cond_both (nat_le 1 revision && nat_le revision (newest_revision (slice_get (fold board.start (takens (take board.settled board.order))).documents document)))
      (at_rest board tickets acks sent (composed ++ (document, revision) ∷ [])) (at_rest board tickets acks sent composed)
      (λ (w : World). (more : List (ℕ × ℕ)) × (w ≡ at_rest board tickets acks sent more)) (λ yes. (composed ++ (document, revision) ∷ [], refl)) (λ no. (composed, refl))
