-- What is followed of a world takes a step with each event, as the program does with what it is told of that event.
use Rattle.std.proofs.Common.{◌≡◌, ℕ, ◌+◌, ◌-◌, ◌≤◌, Bool, true, false, cond, List, [], ◌∷◌, ◌++◌, length, take, drop, map, Option, Some, None, refl, sym, ap, ◌∙◌, arith}
use Rattle.std.specs.Prelude.{◌==◌, ◌&&◌, nat_lt, nat_le, bytes_eq, All, max, slice_get, option_map}
use Rattle.std.proofs.lemmas.Bool.{and_parts, cond_both, leb-true, and_from}
use Rattle.std.proofs.lemmas.Bool.Decides.{nat_tests}
use Rattle.std.proofs.lemmas.List.{append-nil, length-append, length-drop, length-take-le, length-map, map-append, take-map}
use Rattle.std.proofs.lemmas.List.Elements.{All-nil, All-head, All-tail, All-push, All-take}
use Rattle.std.proofs.lemmas.Option.{slice_get-map}
use Rattle.revision.specs.Command.{Taken, Command}
use Rattle.revision.specs.Window.{longest, Window, nothing_taken, taken_all, revision_in}
use Rattle.revision.proofs.CallerLemmas.{from_nothing}
use Rattle.revision.specs.State.{State, last_of_all}
use Rattle.revision.specs.Acceptance.{Answer, Takes, Repeats, Refuses, TakenAt, AgainAt, answer}
use Rattle.world.specs.declared.follower.Place.{Place}
use Rattle.world.specs.declared.follower.Waiting.{Waiting}
use Rattle.world.specs.declared.follower.Happening.{Happening}
use Rattle.world.specs.Progress.{Ticket, can_take, can_settle, can_ack}
use Rattle.world.specs.Event.{Outcome, Done, Failed, Stopped, Event, Submit, Take, Device, Publish, Settle, Ack, Compose, Crash, Open, Resend}
use Rattle.world.specs.World.{Entry, entry_of, takens, World, begun, is_of, last_sent}
use Rattle.world.specs.Step.{is_numbered, is_among_last, with_command, is_written, written, acknowledged, may_leave, stopped, opened, can_open, may_pick, whole, running_step, crashed_step, step, run}
use Rattle.world.specs.Shown.{Shown, all_shown}
use Rattle.world.specs.Followed as model
use Rattle.world.specs.Followed.{Followed, followed_step}
use Rattle.world.specs.Following.{IsOwn, taken_as, is_done, told, all_told, followed_steps, place_of, waiting_of, followed_of, Follows}
use Rattle.world.proofs.Numbers.{window_in, Placed, bytes_same}
use Rattle.world.proofs.Histories.{after, own_revisions, window-after}
use Rattle.world.proofs.Answered.{takes_placed, repeats_made, made_repeats}
use Rattle.world.proofs.Holding.{IsConsistent, with_answer, begun-holds, left-between, step-holds}
use Rattle.attributes.proofs.CallerLemmas.{cond_same}

-- what is told of one event: one happening, or none
abbrev IsShort : List Happening → Type 0
IsShort [] = Unit {0}
IsShort (first ∷ []) = Unit {0}
IsShort (first ∷ second ∷ others) = ⊥

abbrev stepped : Bool → Followed → List Happening → Followed
stepped crashed followed [] = followed
stepped crashed followed (first ∷ others) = cond crashed (model.stopped_step followed first) (model.running followed first)

stepped-steps : (followed : Followed) (told : List Happening) → IsShort told → stepped followed.crashed followed told ≡ followed_steps followed told
stepped-steps followed [] short = refl
stepped-steps followed (first ∷ []) short = refl
stepped-steps followed (first ∷ second ∷ others) short = absurd short

followed_steps-append : (followed : Followed) (first others : List Happening) → followed_steps followed (first ++ others) ≡ followed_steps (followed_steps followed first) others
followed_steps-append followed [] others = refl
followed_steps-append followed (happening ∷ more) others = followed_steps-append (followed_step followed happening) more others

-- the revisions of places
abbrev revisions_of : List Place → List ℕ
revisions_of places = map (λ (place : Place). place.revision) places

module _ (name source : List ℕ) where
  abbrev Own : Entry → Type 0
  Own entry = is_of name source entry.command ≡ true

  -- where all commands are the source's, their revisions are those of the places
  own-places : (entries : List Entry) → All Own entries → own_revisions name source entries ≡ revisions_of (map place_of entries)
  own-places [] own = refl
  own-places (first ∷ others) own =
      ap (λ b. cond b (first.taken.revision ∷ own_revisions name source others) (own_revisions name source others)) (All-head Own first others own)
      ∙ ap (λ l. first.taken.revision ∷ l) (own-places others (All-tail Own first others own))

  -- a world of a store that began without documents, in whose order all commands are the source's to the document
  record Ours (world : World) : Type 0 where
    pub holds : IsConsistent world
    pub empty : world.board.start.documents ≡ []
    pub own : All Own world.board.order

  abbrev KeptOurs : World → Type 0
  KeptOurs world = All Own world.board.order × (world.board.start.documents ≡ [])

  begun-ours : (start : State) → start.documents ≡ [] → Ours (begun start)
  begun-ours start none = record { holds = begun-holds start; empty = none; own = All-nil Own }

  window-ours : (world : World) → Ours world → window_in name source (all_shown world.board.state) ≡ taken_all nothing_taken (revisions_of (map place_of world.board.order))
  window-ours world ours =
      ap (window_in name source) ours.holds.state
      ∙ (window-after name source (all_shown world.board.start) world.board.order ours.holds.placed
      ∙ (ap (λ (w : Window). taken_all w (own_revisions name source world.board.order)) (ap (λ l. window_in name source (map Rattle.world.specs.Shown.shown l)) ours.empty)
      ∙ ap (taken_all nothing_taken) (own-places world.board.order ours.own)))

  -- a number in the window made the revision that the order has at its place
  made-ours : (world : World) (number : ℕ) → Ours world → 1 ≤ number
      → revision_in number (window_in name source (all_shown world.board.state)) ≡ model.made_by number (map place_of world.board.order)
  made-ours world number ours some =
      ap (revision_in number) (window-ours world ours)
      ∙ (from_nothing (revisions_of (map place_of world.board.order)) number some
      ∙ (ap (λ n. cond (nat_lt n (number + longest)) (slice_get (revisions_of (map place_of world.board.order)) (number - 1)) None) (length-map (map place_of world.board.order) (λ (p : Place). p.revision))
      ∙ ap (λ o. cond (nat_lt (length (map place_of world.board.order)) (number + longest)) o None) (slice_get-map (λ (p : Place). p.revision) (map place_of world.board.order) (number - 1))))

  -- the greatest number that was sent, with one more
  sent-with : (sent : List Command) (command : Command) → is_of name source command ≡ true → last_sent name source (sent ++ command ∷ []) ≡ max (last_sent name source sent) command.number
  sent-with [] command is = ap (λ b. cond b (max command.number 0) 0) is ∙ number command.number
    where
      number : (n : ℕ) → max n 0 ≡ max 0 n
      number n = omega arith
  sent-with (first ∷ others) command is = by_test (sent-with others command is) (is_of name source first)
    where
      by_test : last_sent name source (others ++ command ∷ []) ≡ max (last_sent name source others) command.number → (b : Bool)
          → cond b (max first.number (last_sent name source (others ++ command ∷ []))) (last_sent name source (others ++ command ∷ []))
          ≡ max (cond b (max first.number (last_sent name source others)) (last_sent name source others)) command.number
      by_test further true = omega (arith, further)
      by_test further false = further

  module _ (world : World) (ours : Ours world) where
    followed : Followed
    followed = followed_of name source world

    -- what the number of a command made
    own-made : (command : Command) → command.name ≡ name → command.source ≡ source → 1 ≤ command.number
        → revision_in command.number (window_in command.name command.source (all_shown world.board.state)) ≡ model.made_by command.number (map place_of world.board.order)
    own-made command named from some =
        ap (λ n. revision_in command.number (window_in n command.source (all_shown world.board.state))) named
        ∙ (ap (λ s. revision_in command.number (window_in name s (all_shown world.board.state))) from ∙ made-ours world command.number ours some)

    -- where no answer is a retry, it made none
    no_retry : (command : Command) → command.name ≡ name → command.source ≡ source → 1 ≤ command.number
        → ((revision : ℕ) → answer world.board.state command ≡ Repeats revision → ⊥) → model.made_by command.number (map place_of world.board.order) ≡ None
    no_retry command named from some never = by_made (model.made_by command.number (map place_of world.board.order)) refl
      where
        by_made : (made : Option ℕ) → model.made_by command.number (map place_of world.board.order) ≡ made → model.made_by command.number (map place_of world.board.order) ≡ None
        by_made None is = is
        by_made (Some revision) is = absurd (never revision (made_repeats world.board.state command revision (own-made command named from some ∙ is)))

    -- what is followed, with the order, the tickets and the last number sent after a command
    answered-followed : (command : Command) → is_of name source command ≡ true → command.name ≡ name → command.source ≡ source → 1 ≤ command.number
        → (answered : Answer) → answer world.board.state command ≡ answered
        → followed_of name source (with_answer world command answered) ≡ model.submitted (followed_of name source world) command.number (taken_as answered)
    answered-followed command own named from some (Repeats revision) is =
        (λ i. record (followed_of name source world) {
          tickets = (map-append waiting_of world.tickets (ticket ∷ []) ∙ ap (λ (t : Waiting). map waiting_of world.tickets ++ t ∷ []) waits) i;
          sent = sent-with world.sent command own i;
        })
        ∙ sym (ap (model.submitted_by (followed_of name source world) command.number None) made)
      where
        ticket : Ticket
        ticket = record { command = command; reply = AgainAt revision; length = length world.board.order }

        made : model.made_by command.number (map place_of world.board.order) ≡ Some revision
        made = sym (own-made command named from some) ∙ repeats_made world.board.state command revision is

        count : length world.board.order ≡ length (map place_of world.board.order)
        count = sym (length-map world.board.order place_of)

        waits : waiting_of (record { command = command; reply = AgainAt revision; length = length world.board.order })
            ≡ record { number = command.number; again = true; revision = revision; length = length (map place_of world.board.order) }
        waits = λ i. record { number = command.number; again = true; revision = revision; length = count i }
    answered-followed command own named from some (Takes taken) is =
        (λ i. record (followed_of name source world) {
          order = (map-append place_of world.board.order (entry_of command taken ∷ []) ∙ ap (λ (p : Place). map place_of world.board.order ++ p ∷ []) place) i;
          tickets = (map-append waiting_of world.tickets (ticket ∷ []) ∙ ap (λ (t : Waiting). map waiting_of world.tickets ++ t ∷ []) waits) i;
          sent = sent-with world.sent command own i;
        })
        ∙ sym (ap (model.submitted_by (followed_of name source world) command.number (Some taken.revision)) anew)
      where
        placed : Placed (all_shown world.board.state) (entry_of command taken)
        placed = takes_placed world.board.state command taken some is

        ticket : Ticket
        ticket = record { command = command; reply = TakenAt taken.revision; length = length world.board.order + 1 }

        place : place_of (entry_of command taken) ≡ record { number = command.number; revision = taken.revision }
        place = λ i. record { number = placed.number i; revision = taken.revision }

        count : length world.board.order + 1 ≡ length (map place_of world.board.order) + 1
        count = ap (λ n. n + 1) (sym (length-map world.board.order place_of))

        waits : waiting_of (record { command = command; reply = TakenAt taken.revision; length = length world.board.order + 1 })
            ≡ record { number = command.number; again = false; revision = taken.revision; length = length (map place_of world.board.order) + 1 }
        waits = λ i. record { number = command.number; again = false; revision = taken.revision; length = count i }

        anew : model.made_by command.number (map place_of world.board.order) ≡ None
        anew = no_retry command named from some (λ revision again. no_taken revision (sym is ∙ again))
          where
            no_taken : (revision : ℕ) → Takes taken ≡ Repeats revision → ⊥
            no_taken revision e = cc
    answered-followed command own named from some (Refuses refusal) is =
        (λ i. record (followed_of name source world) {
          tickets = ap (map waiting_of) (append-nil world.tickets) i;
          sent = sent-with world.sent command own i;
        })
        ∙ sym (ap (model.submitted_by (followed_of name source world) command.number None) anew)
      where
        anew : model.made_by command.number (map place_of world.board.order) ≡ None
        anew = no_retry command named from some (λ revision again. no_refusal revision (sym is ∙ again))
          where
            no_refusal : (revision : ℕ) → Refuses refusal ≡ Repeats revision → ⊥
            no_refusal revision e = cc

    -- what is followed of one world or another
    through : (b : Bool) (x y : World) (p q : Followed) → (b ≡ true → followed_of name source x ≡ p) → followed_of name source y ≡ q
        → followed_of name source (cond b x y) ≡ cond b p q
    through true x y p q first second = first refl
    through false x y p q first second = second

    command-followed : (command : Command) → command.name ≡ name → command.source ≡ source → is_numbered command ≡ true
        → followed_of name source (with_command world command) ≡ model.submitted (followed_of name source world) command.number (taken_as (answer world.board.state command))
    command-followed command named from numbered =
        answered-followed command (and_from (bytes_eq command.name name) (bytes_eq command.source source) (bytes_same command.name name named) (bytes_same command.source source from))
        named from (leb-true 1 command.number (and_parts (nat_le 1 command.number) (nat_le command.number last_of_all) numbered).0) (answer world.board.state command) refl

    submit-followed : (command : Command) → command.name ≡ name → command.source ≡ source
        → followed_of name source (cond (is_numbered command) (with_command world command) world)
        ≡ model.submitted_numbered (followed_of name source world) command.number (taken_as (answer world.board.state command))
    submit-followed command named from = through (is_numbered command) (with_command world command) world _ _ (command-followed command named from) refl

    resend-followed : (command : Command) → command.name ≡ name → command.source ≡ source
        → followed_of name source (cond (is_numbered command && is_among_last command.number (last_sent command.name command.source world.sent)) (with_command world command) world)
        ≡ model.resent (followed_of name source world) command.number (taken_as (answer world.board.state command))
    resend-followed command named from =
        ap (λ n. followed_of name source (cond (is_numbered command && is_among_last command.number n) (with_command world command) world)) sent_same
        ∙ by_tests (is_numbered command) (is_among_last command.number (last_sent name source world.sent)) (submit-followed command named from)
      where
        sent_same : last_sent command.name command.source world.sent ≡ last_sent name source world.sent
        sent_same = ap (λ n. last_sent n command.source world.sent) named ∙ ap (λ s. last_sent name s world.sent) from

        by_tests : (numbered last : Bool)
            → followed_of name source (cond numbered (with_command world command) world) ≡ cond numbered (model.submitted (followed_of name source world) command.number (taken_as (answer world.board.state command))) (followed_of name source world)
            → followed_of name source (cond (numbered && last) (with_command world command) world)
            ≡ cond last (cond numbered (model.submitted (followed_of name source world) command.number (taken_as (answer world.board.state command))) (followed_of name source world)) (followed_of name source world)
        by_tests true true h = h
        by_tests true false h = refl
        by_tests false true h = h
        by_tests false false h = refl

    take-followed : (count : ℕ) → followed_of name source (running_step world (Take count)) ≡ model.taken_off (followed_of name source world) count
    take-followed count =
        through (can_take world.board count && (world.board.settled == world.board.taken)) _ world _ _ (λ e. refl) refl
        ∙ ap (λ n. cond (nat_lt 0 count && nat_le (world.board.taken + count) n && (world.board.settled == world.board.taken))
        (record (followed_of name source world) { taken = world.board.taken + count; with_batch = world.board.taken + count }) (followed_of name source world))
        (sym (length-map world.board.order place_of))

    device-followed : (outcome : Outcome) → followed_of name source (running_step world (Device outcome)) ≡ model.written (followed_of name source world) (is_done outcome)
    device-followed Done = through (is_written world) _ world _ _ (λ e. refl) refl
    device-followed Failed = through (is_written world) _ world _ _ (λ e. refl) refl
    device-followed Stopped = through (is_written world) _ world _ _ (λ e. refl) refl

    publish-followed : followed_of name source (running_step world Publish) ≡ model.shown (followed_of name source world)
    publish-followed = through (nat_lt (length world.published) world.board.taken && (world.without == world.board.taken)) _ world _ _
        (λ e. λ i. record (followed_of name source world) { published = long i }) refl
      where
        beyond : List Entry
        beyond = drop (length world.published) (take world.board.taken world.board.order)

        long : length (world.published ++ takens (drop (length world.published) (take world.board.taken world.board.order))) ≡ world.board.taken
        long = omega (
          arith,
          length-append world.published (takens (drop (length world.published) (take world.board.taken world.board.order))),
          length-map (drop (length world.published) (take world.board.taken world.board.order)) (λ (e : Entry). e.taken),
          length-drop (length world.published) (take world.board.taken world.board.order),
          length-take-le world.board.taken world.board.order ours.holds.counts.taken_long,
          ours.holds.counts.shown_without,
          ours.holds.counts.without_with,
          ours.holds.counts.with_taken,
        )

    settle-followed : followed_of name source (running_step world Settle) ≡ model.settled (followed_of name source world)
    settle-followed =
        through (can_settle world.board (world.board.taken - world.board.settled) (length world.published)) _ world _ _ (λ e. λ i. record (followed_of name source world) { settled = all i }) refl
        ∙ ap (λ b. cond b (record (followed_of name source world) { settled = world.board.taken }) (followed_of name source world))
        (tests world.board.settled world.board.taken (length world.published) le)
      where
        le : world.board.settled ≤ world.board.taken
        le = omega (arith, ours.holds.counts.settled_shown, ours.holds.counts.shown_without, ours.holds.counts.without_with, ours.holds.counts.with_taken)

        all : world.board.settled + (world.board.taken - world.board.settled) ≡ world.board.taken
        all = omega (arith, le)

        tests : (s t p : ℕ) → s ≤ t → (nat_lt 0 (t - s) && nat_le (s + (t - s)) t && (p == s + (t - s))) ≡ (nat_lt s t && (p == t))
        tests s t p le = grind (arith, nat_tests)

    ack-followed : (ticket : Option Ticket) → followed_of name source (acknowledged world ticket) ≡ model.acknowledged_ticket (followed_of name source world) (option_map waiting_of ticket)
    ack-followed None = refl
    ack-followed (Some ticket) = through (can_ack world.board ticket) _ world _ _
        (λ e. λ i. record (followed_of name source world) { acks = map-append waiting_of world.acks (ticket ∷ []) i }) refl

    open-followed : (kept : ℕ) (floors : List ℕ) → followed_of name source (cond (can_open world kept floors) (opened world kept floors) world)
        ≡ model.opened (followed_of name source world) kept (may_pick world.board.start.limits.keep world.composed 0 (whole world.board.start (takens (take kept world.board.order))).documents floors)
    open-followed kept floors = through (can_open world kept floors) _ world _ _
        (λ e. λ i. record (followed_of name source (opened world kept floors)) {
          order = sym (take-map place_of kept world.board.order) i;
          published = count e i;
        }) refl
      where
        count : can_open world kept floors ≡ true → length (takens (take kept world.board.order)) ≡ kept
        count e =
            let between = left-between world ours.holds kept (and_parts (may_leave world kept) _ e).0 in
            length-map (take kept world.board.order) (λ (t : Entry). t.taken) ∙ length-take-le kept world.board.order (omega (arith, between.1, ours.holds.counts.taken_long))

    -- one event, of a machine that runs or that has stopped
    told-followed : (event : Event) → IsOwn name source event → (crashed : Bool)
        → followed_of name source (cond crashed (crashed_step world event) (running_step world event))
        ≡ stepped crashed (followed_of name source world) (told world event)
    told-followed (Submit command) own true = refl
    told-followed (Submit command) own false = submit-followed command own.0 own.1
    told-followed (Resend command) own true = refl
    told-followed (Resend command) own false = resend-followed command own.0 own.1
    told-followed (Take count) own true = refl
    told-followed (Take count) own false = take-followed count
    told-followed (Device outcome) own true = refl
    told-followed (Device outcome) own false = device-followed outcome
    told-followed Publish own true = refl
    told-followed Publish own false = publish-followed
    told-followed Settle own true = refl
    told-followed Settle own false = settle-followed
    told-followed (Ack place) own true = refl
    told-followed (Ack place) own false =
        ack-followed (slice_get world.tickets place) ∙ ap (model.acknowledged_ticket (followed_of name source world)) (sym (slice_get-map waiting_of world.tickets place))
    told-followed (Compose document revision) own true = refl
    told-followed (Compose document revision) own false = through _ _ world (followed_of name source world) (followed_of name source world) (λ e. refl) refl ∙ cond_same _ (followed_of name source world)
    told-followed (Crash kept) own true = refl
    told-followed (Crash kept) own false = through (may_leave world kept) (stopped world kept) world _ _ (λ e. refl) refl
    told-followed (Open kept floors) own true = open-followed kept floors
    told-followed (Open kept floors) own false = by_failed world.failed (open-followed kept floors)
      where
        by_failed : (failed : Bool) → followed_of name source (cond (can_open world kept floors) (opened world kept floors) world)
            ≡ model.opened (followed_of name source world) kept (may_pick world.board.start.limits.keep world.composed 0 (whole world.board.start (takens (take kept world.board.order))).documents floors)
            → followed_of name source (cond (failed && can_open world kept floors) (opened world kept floors) world)
            ≡ cond failed (model.opened (followed_of name source world) kept (may_pick world.board.start.limits.keep world.composed 0 (whole world.board.start (takens (take kept world.board.order))).documents floors)) (followed_of name source world)
        by_failed true h = h
        by_failed false h = refl

    step-followed : (event : Event) → IsOwn name source event → followed_of name source (step world event) ≡ followed_steps (followed_of name source world) (told world event)
    step-followed event own = told-followed event own world.crashed ∙ stepped-steps (followed_of name source world) (told world event) (one_told event)
      where
        one_told : (event : Event) → IsShort (told world event)
        one_told (Submit command) = tt
        one_told (Resend command) = tt
        one_told (Take count) = tt
        one_told (Device outcome) = tt
        one_told Publish = tt
        one_told Settle = tt
        one_told (Ack place) = tt
        one_told (Compose document revision) = tt
        one_told (Crash kept) = tt
        one_told (Open kept floors) = tt

    own-own : (command : Command) → command.name ≡ name → command.source ≡ source → (taken : Taken) → Own (entry_of command taken)
    own-own command named from taken =
        and_from (bytes_eq command.name name) (bytes_eq command.source source) (bytes_same command.name name named) (bytes_same command.source source from)

    -- the order of a world after an event, where each command is the source's to the document
    answered-own : (command : Command) → command.name ≡ name → command.source ≡ source → (answered : Answer) → KeptOurs (with_answer world command answered)
    answered-own command named from (Takes taken) = (All-push Own world.board.order (entry_of command taken) ours.own (own-own command named from taken), ours.empty)
    answered-own command named from (Repeats revision) = (ours.own, ours.empty)
    answered-own command named from (Refuses refusal) = (ours.own, ours.empty)

    running-own : (event : Event) → IsOwn name source event → KeptOurs (running_step world event)
    running-own (Submit command) own = cond_both (is_numbered command) (with_command world command) world KeptOurs (λ e. answered-own command own.0 own.1 (answer world.board.state command)) (λ e. (ours.own, ours.empty))
    running-own (Resend command) own = cond_both (is_numbered command && is_among_last command.number (last_sent command.name command.source world.sent)) (with_command world command) world KeptOurs (λ e. answered-own command own.0 own.1 (answer world.board.state command)) (λ e. (ours.own, ours.empty))
    running-own (Take count) own = cond_both (can_take world.board count && (world.board.settled == world.board.taken)) _ world KeptOurs (λ e. (ours.own, ours.empty)) (λ e. (ours.own, ours.empty))
    running-own (Device Done) own = cond_both (is_written world) (written world Done) world KeptOurs (λ e. (ours.own, ours.empty)) (λ e. (ours.own, ours.empty))
    running-own (Device Failed) own = cond_both (is_written world) (written world Failed) world KeptOurs (λ e. (ours.own, ours.empty)) (λ e. (ours.own, ours.empty))
    running-own (Device Stopped) own = cond_both (is_written world) (written world Stopped) world KeptOurs (λ e. (ours.own, ours.empty)) (λ e. (ours.own, ours.empty))
    running-own Publish own = cond_both (nat_lt (length world.published) world.board.taken && (world.without == world.board.taken)) _ world KeptOurs (λ e. (ours.own, ours.empty)) (λ e. (ours.own, ours.empty))
    running-own Settle own = cond_both (can_settle world.board (world.board.taken - world.board.settled) (length world.published)) _ world KeptOurs (λ e. (ours.own, ours.empty)) (λ e. (ours.own, ours.empty))
    running-own (Ack place) own = by_ticket (slice_get world.tickets place)
      where
        by_ticket : (ticket : Option Ticket) → KeptOurs (acknowledged world ticket)
        by_ticket None = (ours.own, ours.empty)
        by_ticket (Some ticket) = cond_both (can_ack world.board ticket) _ world KeptOurs (λ e. (ours.own, ours.empty)) (λ e. (ours.own, ours.empty))
    running-own (Compose document revision) own = cond_both _ _ world KeptOurs (λ e. (ours.own, ours.empty)) (λ e. (ours.own, ours.empty))
    running-own (Crash kept) own = cond_both (may_leave world kept) (stopped world kept) world KeptOurs (λ e. (ours.own, ours.empty)) (λ e. (ours.own, ours.empty))
    running-own (Open kept floors) own = cond_both (world.failed && can_open world kept floors) (opened world kept floors) world KeptOurs (λ e. (All-take Own kept world.board.order ours.own, ours.empty)) (λ e. (ours.own, ours.empty))

    crashed-own : (event : Event) → KeptOurs (crashed_step world event)
    crashed-own (Open kept floors) = cond_both (can_open world kept floors) (opened world kept floors) world KeptOurs (λ e. (All-take Own kept world.board.order ours.own, ours.empty)) (λ e. (ours.own, ours.empty))
    crashed-own (Submit command) = (ours.own, ours.empty)
    crashed-own (Resend command) = (ours.own, ours.empty)
    crashed-own (Take count) = (ours.own, ours.empty)
    crashed-own (Device outcome) = (ours.own, ours.empty)
    crashed-own Publish = (ours.own, ours.empty)
    crashed-own Settle = (ours.own, ours.empty)
    crashed-own (Ack place) = (ours.own, ours.empty)
    crashed-own (Compose document revision) = (ours.own, ours.empty)
    crashed-own (Crash kept) = (ours.own, ours.empty)

    step-own : (event : Event) → IsOwn name source event → KeptOurs (step world event)
    step-own event own = cond_both world.crashed (crashed_step world event) (running_step world event) KeptOurs (λ e. crashed-own event) (λ e. running-own event own)

    step-ours : (event : Event) → IsOwn name source event → Ours (step world event)
    step-ours event own = let kept = step-own event own in record { holds = step-holds world ours.holds event; empty = kept.1; own = kept.0 }

  run-followed : (world : World) (events : List Event) → Ours world → All (IsOwn name source) events
      → followed_of name source (run world events) ≡ followed_steps (followed_of name source world) (all_told world events)
  run-followed world [] ours own = refl
  run-followed world (first ∷ others) ours own =
      run-followed (step world first) others (step-ours world ours first (All-head (IsOwn name source) first others own)) (All-tail (IsOwn name source) first others own)
      ∙ (ap (λ f. followed_steps f (all_told (step world first) others)) (step-followed world ours first (All-head (IsOwn name source) first others own))
      ∙ sym (followed_steps-append (followed_of name source world) (told world first) (all_told (step world first) others)))

pub follows : Follows
follows start name source events none own = run-followed name source (begun start) events (begun-ours name source start none) own
