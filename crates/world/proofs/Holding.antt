-- What every event keeps of a world.
use Rattle.std.proofs.Common.{◌≡◌, ℕ, ◌+◌, ◌-◌, ◌≤◌, Bool, true, false, cond, ◌&&◌, List, [], ◌∷◌, ◌++◌, length, take, drop, Option, Some, None, refl, sym, ap, ◌∙◌, subst, arith, inl, inr}
use Rattle.std.specs.Prelude.{◌==◌, nat_lt, nat_le, All, max, slice_get, option_to_list}
use Rattle.std.proofs.lemmas.Bool.{and_parts, or_cases, cond_both, leb-true, ltb-true, eqb-true}
use Rattle.std.proofs.lemmas.List.{append-nil, take_all, take-append-drop, take-append-le, take-take, length-append, length-take-le, length-map, map-append}
use Rattle.std.proofs.lemmas.List.Elements.{All-nil, All-push, All-weaker, All-take}
use Rattle.std.proofs.lemmas.Option.{slice_get_within, get_or_from_slice_get}
use Rattle.revision.specs.Window.{revision_in}
use Rattle.revision.specs.Command.{Command}
use Rattle.revision.specs.State.{State, last_of_all}
use Rattle.revision.specs.Acceptance.{Answer, Takes, Repeats, Refuses, answer}
use Rattle.world.specs.Progress.{Ticket, submitted_by, ticket_by, can_take, can_settle, can_ack, taken_beyond}
use Rattle.world.specs.Event.{Outcome, Done, Failed, Stopped, Event, Submit, Take, Device, Publish, Settle, Ack, Compose, Crash, Open, Resend}
use Rattle.world.specs.World.{Entry, entry_of, takens, World, begun, is_of, last_sent}
use Rattle.world.specs.Step.{is_numbered, is_among_last, with_command, is_written, written, acknowledged, may_leave, stopped, opened, can_open, running_step, crashed_step, step, run, whole, may_pick}
use Rattle.world.specs.Shown.{Shown, all_shown}
pub use Rattle.world.specs.steps.Holding.{Counts, WasSent, StandsSettled, IsConsistent}
use Rattle.world.proofs.Showing.{grown_shown, shown-grown}
use Rattle.world.proofs.Numbers.{window_in, Placed}
use Rattle.world.proofs.Histories.{after, placed-more, placed-take, sender_same}
use Rattle.world.proofs.Answered.{takes_placed, repeats_made}
use Rattle.world.proofs.Standing.{Stands, stands-more, stands-take, after-more, made-last}
use Rattle.world.proofs.Openings.{shown-opened}

pub begun-holds : (start : State) → IsConsistent (begun start)
begun-holds start = record {
  placed = tt;
  state = refl;
  limits = refl;
  counts = record { settled_shown = omega arith; shown_without = omega arith; without_with = omega arith; with_taken = omega arith; taken_long = omega arith };
  shown = refl;
  sent = All-nil (WasSent []);
  tickets = All-nil (Stands (all_shown start) []);
  acks = All-nil (StandsSettled (all_shown start) [] 0);
}

-- what was sent stays sent
sent-more : (name source : List ℕ) (sent : List Command) (command : Command) → last_sent name source sent ≤ last_sent name source (sent ++ command ∷ [])
sent-more name source [] command = omega arith
sent-more name source (first ∷ others) command = by_test (sent-more name source others command) (is_of name source first)
  where
    by_test : last_sent name source others ≤ last_sent name source (others ++ command ∷ []) → (b : Bool) → cond b (max first.number (last_sent name source others)) (last_sent name source others)
        ≤ cond b (max first.number (last_sent name source (others ++ command ∷ []))) (last_sent name source (others ++ command ∷ []))
    by_test further true = omega (arith, further)
    by_test further false = further

sent-own : (sent : List Command) (command : Command) → command.number ≤ last_sent command.name command.source (sent ++ command ∷ [])
sent-own [] command = subst (λ b. command.number ≤ cond b (max command.number 0) 0) (sym (sender_same command command refl refl)) (omega arith)
sent-own (first ∷ others) command = by_test (sent-own others command) (is_of command.name command.source first)
  where
    by_test : command.number ≤ last_sent command.name command.source (others ++ command ∷ []) → (b : Bool) → command.number ≤ cond b (max first.number (last_sent command.name command.source (others ++ command ∷ []))) (last_sent command.name command.source (others ++ command ∷ []))
    by_test further true = omega (arith, further)
    by_test further false = further

-- the world after a command that was answered so
abbrev pub with_answer : World → Command → Answer → World
with_answer world command answer = record world {
  board = submitted_by (entry_of command) world.board answer;
  tickets = world.tickets ++ option_to_list (ticket_by world.board command answer);
  sent = world.sent ++ command ∷ [];
}

module _ (world : World) (holds : IsConsistent world) where
  documents : List Shown
  documents = all_shown world.board.start

  sent-kept : (command : Command) → All (WasSent (world.sent ++ command ∷ [])) world.board.order
  sent-kept command = All-weaker (WasSent world.sent) (WasSent (world.sent ++ command ∷ []))
      (λ e was. omega (arith, was, sent-more e.command.name e.command.source world.sent command)) world.board.order holds.sent

  -- a command comes
  answered-holds : (command : Command) → 1 ≤ command.number → (answered : Answer) → answer world.board.state command ≡ answered
      → IsConsistent (with_answer world command answered)
  answered-holds command some (Refuses refusal) is = record {
    placed = holds.placed;
    state = holds.state;
    limits = holds.limits;
    counts = holds.counts;
    shown = holds.shown;
    sent = sent-kept command;
    tickets = subst (λ t. All (Stands (all_shown world.board.start) world.board.order) t) (sym (append-nil world.tickets)) holds.tickets;
    acks = holds.acks;
  }
  answered-holds command some (Repeats revision) is = record {
    placed = holds.placed;
    state = holds.state;
    limits = holds.limits;
    counts = holds.counts;
    shown = holds.shown;
    sent = sent-kept command;
    tickets = All-push (Stands (all_shown world.board.start) world.board.order) world.tickets _ holds.tickets (record {
      within = omega arith;
      made = ap (λ l. revision_in command.number (window_in command.name command.source (after (all_shown world.board.start) l))) (take_all (length world.board.order) world.board.order (omega arith))
          ∙ (ap (λ d. revision_in command.number (window_in command.name command.source d)) (sym holds.state) ∙ repeats_made world.board.state command revision is);
    });
    acks = holds.acks;
  }
  answered-holds command some (Takes taken) is = record {
    placed = placed-more (all_shown world.board.start) world.board.order (entry_of command taken) holds.placed here;
    state = shown-grown world.board.state taken ∙ (ap (grown_shown taken) holds.state ∙ sym (after-more (all_shown world.board.start) world.board.order (entry_of command taken)));
    limits = holds.limits;
    counts = record {
      settled_shown = holds.counts.settled_shown;
      shown_without = holds.counts.shown_without;
      without_with = holds.counts.without_with;
      with_taken = holds.counts.with_taken;
      taken_long = omega (arith, holds.counts.taken_long, longer);
    };
    shown = holds.shown ∙ ap takens (sym (take-append-le (length world.published) world.board.order (entry_of command taken ∷ []) shown_long));
    sent = All-push (WasSent (world.sent ++ command ∷ [])) world.board.order (entry_of command taken) (sent-kept command) (sent-own world.sent command);
    tickets = All-push (Stands (all_shown world.board.start) (world.board.order ++ entry_of command taken ∷ [])) world.tickets _
        (All-weaker (Stands (all_shown world.board.start) world.board.order) (Stands (all_shown world.board.start) (world.board.order ++ entry_of command taken ∷ []))
        (λ t stands. stands-more (all_shown world.board.start) world.board.order (entry_of command taken) t stands) world.tickets holds.tickets)
        (record {
          within = omega (arith, longer);
          made = ap (λ l. revision_in command.number (window_in command.name command.source (after (all_shown world.board.start) l))) (take_all (length world.board.order + 1) (world.board.order ++ entry_of command taken ∷ []) (omega (arith, longer)))
              ∙ made-last (all_shown world.board.start) world.board.order (entry_of command taken) command taken.revision here ((refl, refl, refl), refl);
        });
    acks = All-weaker (StandsSettled (all_shown world.board.start) world.board.order world.board.settled) (StandsSettled (all_shown world.board.start) (world.board.order ++ entry_of command taken ∷ []) world.board.settled)
        (λ t stands. (stands-more (all_shown world.board.start) world.board.order (entry_of command taken) t stands.0, stands.1)) world.acks holds.acks;
  }
    where
      here : Placed (after (all_shown world.board.start) world.board.order) (entry_of command taken)
      here = subst (λ d. Placed d (entry_of command taken)) holds.state (takes_placed world.board.state command taken some is)

      longer : length (world.board.order ++ entry_of command taken ∷ []) ≡ length world.board.order + 1
      longer = length-append world.board.order (entry_of command taken ∷ [])

      shown_long : length world.published ≤ length world.board.order
      shown_long = omega (arith, holds.counts.shown_without, holds.counts.without_with, holds.counts.with_taken, holds.counts.taken_long)

  command-holds : (command : Command) → is_numbered command ≡ true → IsConsistent (with_command world command)
  command-holds command numbered =
      answered-holds command (leb-true 1 command.number (and_parts (nat_le 1 command.number) (nat_le command.number last_of_all) numbered).0) (answer world.board.state command) refl

  take-holds : (count : ℕ) → (can_take world.board count && (world.board.settled == world.board.taken)) ≡ true
      → IsConsistent (record world { board = record world.board { taken = world.board.taken + count }; with_batch = world.board.taken + count })
  take-holds count can =
      let tests = and_parts (can_take world.board count) (world.board.settled == world.board.taken) can in
      let long = leb-true (world.board.taken + count) (length world.board.order) (and_parts (nat_lt 0 count) (nat_le (world.board.taken + count) (length world.board.order)) tests.0).1 in
      record {
        placed = holds.placed;
        state = holds.state;
        limits = holds.limits;
        counts = record {
          settled_shown = holds.counts.settled_shown;
          shown_without = holds.counts.shown_without;
          without_with = omega (arith, holds.counts.without_with, holds.counts.with_taken);
          with_taken = omega arith;
          taken_long = long;
        };
        shown = holds.shown;
        sent = holds.sent;
        tickets = holds.tickets;
        acks = holds.acks;
      }

  written-holds : (outcome : Outcome) → IsConsistent (written world outcome)
  written-holds Done = record {
    placed = holds.placed;
    state = holds.state;
    limits = holds.limits;
    counts = record {
      settled_shown = holds.counts.settled_shown;
      shown_without = omega (arith, holds.counts.shown_without, holds.counts.without_with, holds.counts.with_taken);
      without_with = omega arith;
      with_taken = omega arith;
      taken_long = holds.counts.taken_long;
    };
    shown = holds.shown;
    sent = holds.sent;
    tickets = holds.tickets;
    acks = holds.acks;
  }
  written-holds Failed = record { placed = holds.placed; state = holds.state; limits = holds.limits; counts = holds.counts; shown = holds.shown; sent = holds.sent; tickets = holds.tickets; acks = holds.acks }
  written-holds Stopped = record { placed = holds.placed; state = holds.state; limits = holds.limits; counts = holds.counts; shown = holds.shown; sent = holds.sent; tickets = holds.tickets; acks = holds.acks }

  publish-holds : (nat_lt (length world.published) world.board.taken && (world.without == world.board.taken)) ≡ true
      → IsConsistent (record world { published = world.published ++ takens (taken_beyond world.board (length world.published)) })
  publish-holds can = record {
    placed = holds.placed;
    state = holds.state;
    limits = holds.limits;
    counts = record {
      settled_shown = omega (arith, holds.counts.settled_shown, holds.counts.shown_without, long, done);
      shown_without = omega (arith, long, done);
      without_with = holds.counts.without_with;
      with_taken = holds.counts.with_taken;
      taken_long = holds.counts.taken_long;
    };
    shown = all ∙ ap (λ n. takens (take n world.board.order)) (sym long);
    sent = holds.sent;
    tickets = holds.tickets;
    acks = holds.acks;
  }
    where
      done : world.without ≡ world.board.taken
      done = eqb-true world.without world.board.taken (and_parts (nat_lt (length world.published) world.board.taken) (world.without == world.board.taken) can).1

      below : length world.published ≤ world.board.taken
      below = omega (arith, ltb-true (length world.published) world.board.taken (and_parts (nat_lt (length world.published) world.board.taken) (world.without == world.board.taken) can).0)

      all : world.published ++ takens (drop (length world.published) (take world.board.taken world.board.order)) ≡ takens (take world.board.taken world.board.order)
      all =
          ap (λ l. l ++ takens (drop (length world.published) (take world.board.taken world.board.order)))
          (holds.shown ∙ ap takens (sym (take-take (length world.published) world.board.taken world.board.order below)))
          ∙ (sym (map-append (λ (e : Entry). e.taken) (take (length world.published) (take world.board.taken world.board.order)) (drop (length world.published) (take world.board.taken world.board.order)))
          ∙ ap takens (take-append-drop (length world.published) (take world.board.taken world.board.order)))

      long : length (world.published ++ takens (drop (length world.published) (take world.board.taken world.board.order))) ≡ world.board.taken
      long = ap length all ∙ (length-map (take world.board.taken world.board.order) (λ (e : Entry). e.taken) ∙ length-take-le world.board.taken world.board.order holds.counts.taken_long)

  settle-holds : (count : ℕ) → can_settle world.board count (length world.published) ≡ true
      → IsConsistent (record world { board = record world.board { settled = world.board.settled + count } })
  settle-holds count can = record {
    placed = holds.placed;
    state = holds.state;
    limits = holds.limits;
    counts = record {
      settled_shown = omega (arith, told);
      shown_without = holds.counts.shown_without;
      without_with = holds.counts.without_with;
      with_taken = holds.counts.with_taken;
      taken_long = holds.counts.taken_long;
    };
    shown = holds.shown;
    sent = holds.sent;
    tickets = holds.tickets;
    acks = All-weaker (StandsSettled (all_shown world.board.start) world.board.order world.board.settled) (StandsSettled (all_shown world.board.start) world.board.order (world.board.settled + count))
        (λ t stands. (stands.0, omega (arith, stands.1))) world.acks holds.acks;
  }
    where
      told : length world.published ≡ world.board.settled + count
      told = eqb-true (length world.published) (world.board.settled + count)
          (and_parts (nat_lt 0 count && nat_le (world.board.settled + count) world.board.taken) (length world.published == world.board.settled + count) can).1

  acknowledged-holds : (place : ℕ) (ticket : Option Ticket) → slice_get world.tickets place ≡ ticket → IsConsistent (acknowledged world ticket)
  acknowledged-holds place None is = holds
  acknowledged-holds place (Some ticket) is = cond_both (can_ack world.board ticket) (record world { acks = world.acks ++ ticket ∷ [] }) world IsConsistent
      (λ can. record {
        placed = holds.placed;
        state = holds.state;
        limits = holds.limits;
        counts = holds.counts;
        shown = holds.shown;
        sent = holds.sent;
        tickets = holds.tickets;
        acks = All-push (StandsSettled (all_shown world.board.start) world.board.order world.board.settled) world.acks ticket holds.acks (
          subst (Stands (all_shown world.board.start) world.board.order) (get_or_from_slice_get world.tickets place ticket ticket is) (holds.tickets place ticket (slice_get_within world.tickets place ticket is)),
          leb-true ticket.length world.board.settled can,
        );
      })
      (λ no. holds)

  composed-holds : (composed : List (ℕ × ℕ)) → IsConsistent (record world { composed = composed })
  composed-holds composed = record { placed = holds.placed; state = holds.state; limits = holds.limits; counts = holds.counts; shown = holds.shown; sent = holds.sent; tickets = holds.tickets; acks = holds.acks }

  -- what a crash may leave lies between what is shown and what is taken off
  pub left-between : (kept : ℕ) → may_leave world kept ≡ true → (length world.published ≤ kept) × (kept ≤ world.board.taken)
  left-between kept may = elim (or_cases (kept == world.without) (kept == world.with_batch) may) [
    | inl e ↦ let is : kept ≡ world.without = eqb-true kept world.without e in
        (omega (arith, is, holds.counts.shown_without), omega (arith, is, holds.counts.without_with, holds.counts.with_taken))
    | inr e ↦ let is : kept ≡ world.with_batch = eqb-true kept world.with_batch e in
        (omega (arith, is, holds.counts.shown_without, holds.counts.without_with), omega (arith, is, holds.counts.with_taken))
  ]

  stopped-holds : (kept : ℕ) → may_leave world kept ≡ true → IsConsistent (stopped world kept)
  stopped-holds kept may = record {
    placed = holds.placed;
    state = holds.state;
    limits = holds.limits;
    counts = record {
      settled_shown = holds.counts.settled_shown;
      shown_without = (left-between kept may).0;
      without_with = omega arith;
      with_taken = (left-between kept may).1;
      taken_long = holds.counts.taken_long;
    };
    shown = holds.shown;
    sent = holds.sent;
    tickets = All-nil (Stands (all_shown world.board.start) world.board.order);
    acks = holds.acks;
  }

  opened-holds : (kept : ℕ) (floors : List ℕ) → can_open world kept floors ≡ true → IsConsistent (opened world kept floors)
  opened-holds kept floors can = record {
    placed = placed-take kept (all_shown world.board.start) world.board.order holds.placed;
    state = shown-opened world.board.start (takens (take kept world.board.order)) world.composed floors picked;
    limits = refl;
    counts = record {
      settled_shown = omega (arith, shown_count);
      shown_without = omega (arith, shown_count);
      without_with = omega arith;
      with_taken = omega arith;
      taken_long = omega (arith, count);
    };
    shown = sym (ap takens (take_all (length (takens (take kept world.board.order))) (take kept world.board.order) (omega (arith, shown_count, count))));
    sent = All-take (WasSent world.sent) kept world.board.order holds.sent;
    tickets = All-nil (Stands (all_shown world.board.start) (take kept world.board.order));
    acks = All-weaker (StandsSettled (all_shown world.board.start) world.board.order world.board.settled) (StandsSettled (all_shown world.board.start) (take kept world.board.order) kept)
        (λ t stands. let le : t.length ≤ kept = omega (arith, stands.1, holds.counts.settled_shown, between.0) in
        (stands-take (all_shown world.board.start) world.board.order kept t most le stands.0, le)) world.acks holds.acks;
  }
    where
      parts : (may_leave world kept ≡ true)
          × (may_pick world.board.start.limits.keep world.composed 0 (whole world.board.start (takens (take kept world.board.order))).documents floors ≡ true)
      parts = and_parts (may_leave world kept) _ can

      picked : may_pick world.board.start.limits.keep world.composed 0 (whole world.board.start (takens (take kept world.board.order))).documents floors ≡ true
      picked = parts.1

      between : (length world.published ≤ kept) × (kept ≤ world.board.taken)
      between = left-between kept parts.0

      most : kept ≤ length world.board.order
      most = omega (arith, between.1, holds.counts.taken_long)

      count : length (take kept world.board.order) ≡ kept
      count = length-take-le kept world.board.order most

      shown_count : length (takens (take kept world.board.order)) ≡ kept
      shown_count = length-map (take kept world.board.order) (λ (e : Entry). e.taken) ∙ count

  running-holds : (event : Event) → IsConsistent (running_step world event)
  running-holds (Submit command) = cond_both (is_numbered command) (with_command world command) world IsConsistent (λ numbered. command-holds command numbered) (λ no. holds)
  running-holds (Take count) = cond_both (can_take world.board count && (world.board.settled == world.board.taken)) _ world IsConsistent (λ can. take-holds count can) (λ no. holds)
  running-holds (Device outcome) = cond_both (is_written world) (written world outcome) world IsConsistent (λ can. written-holds outcome) (λ no. holds)
  running-holds Publish = cond_both (nat_lt (length world.published) world.board.taken && (world.without == world.board.taken)) _ world IsConsistent (λ can. publish-holds can) (λ no. holds)
  running-holds Settle = cond_both (can_settle world.board (world.board.taken - world.board.settled) (length world.published)) _ world IsConsistent (λ can. settle-holds (world.board.taken - world.board.settled) can) (λ no. holds)
  running-holds (Ack place) = acknowledged-holds place (slice_get world.tickets place) refl
  running-holds (Compose document revision) = cond_both _ _ world IsConsistent (λ can. composed-holds (world.composed ++ (document, revision) ∷ [])) (λ no. holds)
  running-holds (Crash kept) = cond_both (may_leave world kept) (stopped world kept) world IsConsistent (λ may. stopped-holds kept may) (λ no. holds)
  running-holds (Open kept floors) = cond_both (world.failed && can_open world kept floors) (opened world kept floors) world IsConsistent
      (λ can. opened-holds kept floors (and_parts world.failed (can_open world kept floors) can).1) (λ no. holds)
  running-holds (Resend command) = cond_both (is_numbered command && is_among_last command.number (last_sent command.name command.source world.sent)) (with_command world command) world IsConsistent
      (λ can. command-holds command (and_parts (is_numbered command) _ can).0) (λ no. holds)

  crashed-holds : (event : Event) → IsConsistent (crashed_step world event)
  crashed-holds (Open kept floors) = cond_both (can_open world kept floors) (opened world kept floors) world IsConsistent (λ can. opened-holds kept floors can) (λ no. holds)
  crashed-holds (Submit command) = holds
  crashed-holds (Take count) = holds
  crashed-holds (Device outcome) = holds
  crashed-holds Publish = holds
  crashed-holds Settle = holds
  crashed-holds (Ack place) = holds
  crashed-holds (Compose document revision) = holds
  crashed-holds (Crash kept) = holds
  crashed-holds (Resend command) = holds

  pub step-holds : (event : Event) → IsConsistent (step world event)
  step-holds event = cond_both world.crashed (crashed_step world event) (running_step world event) IsConsistent (λ yes. crashed-holds event) (λ no. running-holds event)

pub run-holds : (world : World) (events : List Event) → IsConsistent world → IsConsistent (run world events)
run-holds world [] holds = holds
run-holds world (first ∷ others) holds = run-holds (step world first) others (step-holds world holds first)
