-- Events only add to what is shown and to what is acknowledged: each keeps what there was as a prefix.
use Rattle.std.proofs.Common.{◌≡◌, ℕ, ◌-◌, ◌≤◌, true, List, [], ◌∷◌, ◌++◌, length, take, Option, Some, None, refl, sym, ap, ◌∙◌, subst, arith}
use Rattle.std.specs.Prelude.{◌==◌, ◌&&◌, nat_lt, min, slice_get}
use Rattle.std.proofs.lemmas.Bool.{and_parts, cond_both}
use Rattle.std.proofs.lemmas.List.{take_all, take-append-le, take-take, length-take, take-map}
use Rattle.world.specs.Progress.{Ticket, can_take, can_settle, can_ack, taken_beyond}
use Rattle.world.specs.Event.{Outcome, Done, Failed, Stopped, Event, Submit, Take, Device, Publish, Settle, Ack, Compose, Crash, Open, Resend}
use Rattle.world.specs.World.{Entry, takens, World, begun, last_sent}
use Rattle.world.specs.Step.{is_numbered, is_among_last, with_command, is_written, written, acknowledged, may_leave, stopped, opened, can_open, running_step, crashed_step, step, run}
use Rattle.world.specs.Law.{NothingRewritten, OverAllFurther}
use Rattle.world.proofs.Holding.{IsConsistent, begun-holds, left-between, step-holds, run-holds}

begins-itself : {A : Type 0} (list : List A) → list ≡ take (length list) list
begins-itself list = sym (take_all (length list) list (omega arith))

begins-longer : {A : Type 0} (list more : List A) → list ≡ take (length list) (list ++ more)
begins-longer list more = begins-itself list ∙ sym (take-append-le (length list) list more (omega arith))

-- a prefix of a prefix
begins-further : {A : Type 0} (a b c : List A) → a ≡ take (length a) b → b ≡ take (length b) c → a ≡ take (length a) c
begins-further a b c first second = first ∙ (ap (take (length a)) second ∙ take-take (length a) (length b) c shorter)
  where
    least : length a ≡ min (length a) (length b)
    least = ap length first ∙ length-take (length a) b

    shorter : length a ≤ length b
    shorter = omega (arith, least)

go_on-same : (world : World) → NothingRewritten world world
go_on-same world = record { shown = begins-itself world.published; acks = begins-itself world.acks }

go_on-further : (a b c : World) → NothingRewritten a b → NothingRewritten b c → NothingRewritten a c
go_on-further a b c first second = record {
  shown = begins-further a.published b.published c.published first.shown second.shown;
  acks = begins-further a.acks b.acks c.acks first.acks second.acks;
}

module _ (world : World) (holds : IsConsistent world) where
  -- what leaves both alone
  kept-shown : world.published ≡ take (length world.published) world.published
  kept-shown = begins-itself world.published

  kept-acks : world.acks ≡ take (length world.acks) world.acks
  kept-acks = begins-itself world.acks

  -- whatever a crash leaves has what was shown
  opened-go_on : (kept : ℕ) (floors : List ℕ) → can_open world kept floors ≡ true → NothingRewritten world (opened world kept floors)
  opened-go_on kept floors can = record {
    shown = holds.shown
        ∙ (ap takens (sym (take-take (length world.published) kept world.board.order within))
        ∙ sym (take-map (λ (e : Entry). e.taken) (length world.published) (take kept world.board.order)));
    acks = kept-acks;
  }
    where
      within : length world.published ≤ kept
      within = (left-between world holds kept (and_parts (may_leave world kept) _ can).0).0

  acknowledged-go_on : (ticket : Option Ticket) → NothingRewritten world (acknowledged world ticket)
  acknowledged-go_on None = go_on-same world
  acknowledged-go_on (Some ticket) = cond_both (can_ack world.board ticket) (record world { acks = world.acks ++ ticket ∷ [] }) world (NothingRewritten world)
      (λ can. record { shown = kept-shown; acks = begins-longer world.acks (ticket ∷ []) }) (λ no. go_on-same world)

  written-go_on : (outcome : Outcome) → NothingRewritten world (written world outcome)
  written-go_on Done = record { shown = kept-shown; acks = kept-acks }
  written-go_on Failed = record { shown = kept-shown; acks = kept-acks }
  written-go_on Stopped = record { shown = kept-shown; acks = kept-acks }

  composed-go_on : (composed : List (ℕ × ℕ)) → NothingRewritten world (record world { composed = composed })
  composed-go_on composed = record { shown = kept-shown; acks = kept-acks }

  running-go_on : (event : Event) → NothingRewritten world (running_step world event)
  running-go_on (Submit command) = cond_both (is_numbered command) (with_command world command) world (NothingRewritten world)
      (λ can. record { shown = kept-shown; acks = kept-acks }) (λ no. go_on-same world)
  running-go_on (Resend command) = cond_both (is_numbered command && is_among_last command.number (last_sent command.name command.source world.sent)) (with_command world command) world (NothingRewritten world)
      (λ can. record { shown = kept-shown; acks = kept-acks }) (λ no. go_on-same world)
  running-go_on (Take count) = cond_both (can_take world.board count && (world.board.settled == world.board.taken)) _ world (NothingRewritten world)
      (λ can. record { shown = kept-shown; acks = kept-acks }) (λ no. go_on-same world)
  running-go_on (Device outcome) = cond_both (is_written world) (written world outcome) world (NothingRewritten world) (λ can. written-go_on outcome) (λ no. go_on-same world)
  running-go_on Publish = cond_both (nat_lt (length world.published) world.board.taken && (world.without == world.board.taken)) _ world (NothingRewritten world)
      (λ can. record { shown = begins-longer world.published (takens (taken_beyond world.board (length world.published))); acks = kept-acks }) (λ no. go_on-same world)
  running-go_on Settle = cond_both (can_settle world.board (world.board.taken - world.board.settled) (length world.published)) _ world (NothingRewritten world)
      (λ can. record { shown = kept-shown; acks = kept-acks }) (λ no. go_on-same world)
  running-go_on (Ack place) = acknowledged-go_on (slice_get world.tickets place)
  running-go_on (Compose document revision) = cond_both _ _ world (NothingRewritten world)
      (λ can. composed-go_on (world.composed ++ (document, revision) ∷ [])) (λ no. go_on-same world)
  running-go_on (Crash kept) = cond_both (may_leave world kept) (stopped world kept) world (NothingRewritten world)
      (λ may. record { shown = kept-shown; acks = kept-acks }) (λ no. go_on-same world)
  running-go_on (Open kept floors) = cond_both (world.failed && can_open world kept floors) (opened world kept floors) world (NothingRewritten world)
      (λ can. opened-go_on kept floors (and_parts world.failed (can_open world kept floors) can).1) (λ no. go_on-same world)

  crashed-go_on : (event : Event) → NothingRewritten world (crashed_step world event)
  crashed-go_on (Open kept floors) = cond_both (can_open world kept floors) (opened world kept floors) world (NothingRewritten world)
      (λ can. opened-go_on kept floors can) (λ no. go_on-same world)
  crashed-go_on (Submit command) = go_on-same world
  crashed-go_on (Take count) = go_on-same world
  crashed-go_on (Device outcome) = go_on-same world
  crashed-go_on Publish = go_on-same world
  crashed-go_on Settle = go_on-same world
  crashed-go_on (Ack place) = go_on-same world
  crashed-go_on (Compose document revision) = go_on-same world
  crashed-go_on (Crash kept) = go_on-same world
  crashed-go_on (Resend command) = go_on-same world

  step-go_on : (event : Event) → NothingRewritten world (step world event)
  step-go_on event = cond_both world.crashed (crashed_step world event) (running_step world event) (NothingRewritten world) (λ yes. crashed-go_on event) (λ no. running-go_on event)

run-go_on : (world : World) (events : List Event) → IsConsistent world → NothingRewritten world (run world events)
run-go_on world [] holds = go_on-same world
run-go_on world (first ∷ others) holds =
    go_on-further world (step world first) (run (step world first) others) (step-go_on world holds first) (run-go_on (step world first) others (step-holds world holds first))

pub run-append : (world : World) (first others : List Event) → run world (first ++ others) ≡ run (run world first) others
run-append world [] others = refl
run-append world (event ∷ more) others = run-append (step world event) more others

pub all-nothing_rewritten : OverAllFurther NothingRewritten
all-nothing_rewritten start events more =
    subst (NothingRewritten (run (begun start) events)) (sym (run-append (begun start) events more))
    (run-go_on (run (begun start) events) more (run-holds (begun start) events (begun-holds start)))
