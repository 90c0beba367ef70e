-- What stands over all lives of a server, and what is promised of that.
use Rattle.std.proofs.Common.{◌≡◌, ◌≤◌, ◌<◌, ◌⊎◌, ℕ, suc, ◌+◌, Bool, true, false, cond, List, [], ◌∷◌, ◌++◌, length, map, take, drop, get_or, Option, Some, Ok, Err, refl, sym, ap, ◌∙◌, subst, arith, append_assoc, append-nil, inl, inr}
use Rattle.std.specs.Prelude.{All, Any, Result, max, bytes_eq, slice_get, ◌==◌}
use Rattle.std.proofs.lemmas.Bool.{and_from, cases_lt, eq-eqb, or_left}
use Rattle.std.proofs.lemmas.List.{get_or_append_left, get_or_default, length-append, map-append, take_all, take-append-drop}
use Rattle.std.proofs.lemmas.List.Elements.{All-nil, All-cons, All-append, All-weaker}
use Rattle.std.proofs.Math.Logic.{∥∥₁_map}
use mathlib.Core.List.{IsPrefix}
use Rattle.disk.specs.declared.device.Disk.{Ghosts}
use Rattle.disk.specs.Device.{History}
use Rattle.disk.specs.Crash.{LeavesOnly, history_of}
use Rattle.disk.proofs.CallerLemmas.{leaves_since}
use Rattle.refusal.specs.declared.Refusal.{Refusal}
use Rattle.refusal.specs.declared.Refusal.TheVariants.{NoMemory, StoreFailed}
use Rattle.revision.specs.Command.{Taken, Command}
use Rattle.revision.specs.Window.{Window, longest, revision_in}
use Rattle.revision.specs.State.{DocumentRecord, State, find, fold}
use Rattle.revision.specs.Acceptance.{Repeats, Reply, TakenAt, AgainAt, Refused, answer}
use Rattle.revision.specs.Agree.{DocumentsAgree, PlacesAgree, Agree}
use Rattle.revision.proofs.CallerLemmas.{itself, limits-fold}
use Rattle.recovery.specs.declared.store.Store.{Store}
use Rattle.recovery.specs.Found.{commands_of}
use Rattle.recovery.specs.Moment.{Moment}
use Rattle.recovery.specs.Open.{IsOpen, device_of, state_of, moment_now, has_failed}
use Rattle.world.specs.Progress.{Ticket}
use Rattle.world.specs.World.{Entry, entry_of, takens, World, begun, is_of, last_sent}
use Rattle.world.specs.Step.{may_leave}
use Rattle.world.specs.Shown.{Shown, shown, all_shown}
use Rattle.world.specs.Law.{IsSent, window_found, window_held, Made, HasTaken, TakenOnce}
use Rattle.world.specs.steps.Showing.{grown_shown, fold_shown}
use Rattle.world.specs.steps.Placing.{window_in, AllPlaced, after}
use Rattle.world.specs.steps.Holding.{Stands, WasSent, StandsSettled, IsConsistent}
use Rattle.world.proofs.CallerLemmas.{shown-fold, fold_shown-append, made_below, begun-holds, taken-once, nothing-taken_back, taken-is_again}
use Rattle.published.specs.Order.{IsLegal}
use Rattle.published.proofs.CallerLemmas.{prefix_trans, prefix_shorter, takens_long, takens_begin}
use Rattle.flusher.specs.Batches.{IsBeginning}
use Rattle.hub.specs.Placed.{PlacedBy}
use Rattle.session.specs.declared.reply.Reply.{Reply as Told}
use Rattle.session.specs.declared.reply.Reply.TheVariants.{Taken as TookAt, Again as WasAt}
use Rattle.session.specs.Alone.{answered}
use Rattle.session.specs.Exchange.{Exchange, Answered}
use Rattle.session.specs.Replies.{Asks}
use Rattle.session.specs.Reply.{rev_of}
use Rattle.hub.specs.Found.{IsRefusedAfter}
use Rattle.hub_desk.specs.AtHub.{Desk, Acknowledges, Refuses, PassesAtHub}
use Rattle.hub_desk.proofs.CallerLemmas.{again_held, told_through}
use Rattle.server_threads.specs.Answers.{first_desk}
use Rattle.server_threads.specs.Served.{AreLasting, IsAtMoment, KeepsAnswers}
use Rattle.server_threads.specs.Lives.{Acknowledged, last_taken, IsPromised, HasAnswered, Lived, HasGiven, history_at, IsLeftFrom, WasHeard, Lives, First, Next, LivesKept, AllLives, AskedAgain, CrashLeaves, CopyLeaves, OpensAgain}
use Rattle.server_threads.proofs.AtCommits.{was_kept}
use Rattle.server_threads.proofs.Places.{commands_first}
use Rattle.server_threads.proofs.LegalOrders.{legal_placed, first_takens, IsMadeIn, acknowledged_made}

-- what was sent stays sent
sent_behind : (name source : List ℕ) (first : Command) (others : List Command) → last_sent name source others ≤ last_sent name source (first ∷ others)
sent_behind name source first others = by_test (is_of name source first)
  where
    by_test : (b : Bool) → last_sent name source others ≤ cond b (max first.number (last_sent name source others)) (last_sent name source others)
    by_test true = omega arith
    by_test false = omega arith

abbrev sent_of : List Entry → List Command
sent_of order = map (λ (entry : Entry). entry.command) order

own_sent : (command : Command) (others : List Command) → command.number ≤ last_sent command.name command.source (command ∷ others)
own_sent command others =
    subst (λ b. command.number ≤ cond b (max command.number (last_sent command.name command.source others)) (last_sent command.name command.source others))
    (sym (and_from (bytes_eq command.name command.name) (bytes_eq command.source command.source) (itself command.name) (itself command.source))) (omega arith)

all_sent : (order : List Entry) → All (WasSent (sent_of order)) order
all_sent [] = All-nil (WasSent [])
all_sent (first ∷ others) =
    All-cons (WasSent (sent_of (first ∷ others))) first others (own_sent first.command (sent_of others))
    (All-weaker (WasSent (sent_of others)) (WasSent (sent_of (first ∷ others)))
    (λ e was. omega (arith, was, sent_behind e.command.name e.command.source first.command (sent_of others))) others (all_sent others))

-- a world in which all of an order is written, shown and settled
abbrev world_at : State → List Entry → State → List Ticket → World
world_at start order state acks = record {
  board = record { start = start; order = order; state = state; taken = length order; settled = length order };
  published = takens order;
  without = length order;
  with_batch = length order;
  tickets = [];
  acks = acks;
  sent = sent_of order;
  composed = [];
  failed = false;
  crashed = false;
}

consistent : (start : State) (order : List Entry) (state : State) (acks : List Ticket) → AllPlaced (all_shown start) order → all_shown state ≡ after (all_shown start) order
    → state.limits ≡ start.limits → All (StandsSettled (all_shown start) order (length order)) acks → IsConsistent (world_at start order state acks)
consistent start order state acks placed shows limits stand =
    let long : length (takens order) ≡ length order = takens_long order in
    record {
      placed = placed;
      state = shows;
      limits = limits;
      counts = record {
        settled_shown = omega (arith, long);
        shown_without = omega (arith, long);
        without_with = omega arith;
        with_taken = omega arith;
        taken_long = omega arith;
      };
      shown = ap takens (sym (take_all (length (takens order)) order (omega (arith, long))));
      sent = all_sent order;
      tickets = All-nil (Stands (all_shown start) order);
      acks = stand;
    }

-- a ticket that names a revision after so many commands
abbrev made_ticket : Command → ℕ → ℕ → Ticket
made_ticket command revision count = record { command = command; reply = AgainAt revision; length = count }

-- commands that each have their place in an order after a start
module _ (start : State) (order : List Entry) (placed : AllPlaced (all_shown start) order) where
  once : TakenOnce (world_at start order (fold start (takens order)) [])
  once =
      taken-once (world_at start order (fold start (takens order)) [])
      (consistent start order (fold start (takens order)) [] placed (shown-fold start (takens order)) (limits-fold start (takens order)) (All-nil (StandsSettled (all_shown start) order (length order))))

  -- what a window has that was begun here, an entry made, or the start had it
  has_taken : (command : Command) (revision : ℕ) → IsMadeIn (all_shown start) order command revision → HasTaken start order command revision
  has_taken command revision made =
      subst (λ (l : List Entry). HasTaken start l command revision) (take_all (length order) order (omega arith))
      (nothing-taken_back (world_at start order (fold start (takens order)) (made_ticket command revision made.count ∷ [])) holds (length order) may 0
      (made_ticket command revision made.count) (omega arith))
    where
      holds : IsConsistent (world_at start order (fold start (takens order)) (made_ticket command revision made.count ∷ []))
      holds =
          consistent start order (fold start (takens order)) (made_ticket command revision made.count ∷ []) placed (shown-fold start (takens order)) (limits-fold start (takens order))
          (All-cons (StandsSettled (all_shown start) order (length order)) (made_ticket command revision made.count) [] (record { within = made.within; made = made.made }, made.within)
          (All-nil (StandsSettled (all_shown start) order (length order))))

      may : may_leave (world_at start order (fold start (takens order)) (made_ticket command revision made.count ∷ [])) (length order) ≡ true
      may = or_left (length order == length order) (length order == length order) (eq-eqb (length order) (length order) refl)

-- one command sent twice
sent_through : (a b c d : Command) → IsSent a b → IsSent a c → IsSent c d → IsSent b d
sent_through a b c d first second third = (sym first.0 ∙ (second.0 ∙ third.0), sym first.1 ∙ (second.1 ∙ third.1), sym first.2 ∙ (second.2 ∙ third.2))

held_alike : (start : State) (a b : Command) → IsSent a b → window_held start a ≡ window_held start b
held_alike start a b same = λ i. window_found (same.1 i) (find (same.0 i) 0 start.documents)

some_same : (a b : ℕ) → ◌≡◌ {A = Option ℕ} (Some a) (Some b) → a ≡ b
some_same a b e = cc

-- A number has made one revision.
module _ (start : State) (order : List Entry) (placed : AllPlaced (all_shown start) order) where
  ordered_apart : (i j : ℕ) (x y : Entry) → i < j → j < length order → get_or order i x ≡ x → get_or order j y ≡ y → IsSent x.command y.command → ⊥
  ordered_apart i j x y less long here there =
      subst (λ (e : Entry). IsSent x.command e.command → ⊥) (get_or_default order j x y long ∙ there)
      (subst (λ (e : Entry). IsSent e.command (get_or order j x).command → ⊥) here ((once start order placed).apart i j x less long))

  not_before : (a b : Command) (r s : ℕ) → IsSent a b → Any (Made a r) order → revision_in b.number (window_held start b) ≡ Some s → ⊥
  not_before a b r s same (k, e, long, is, made) held =
      let above : (window_held start e.command).number < e.command.number =
      subst (λ (x : Entry). (window_held start x.command).number < x.command.number) is ((once start order placed).anew k e long) in
      let below : b.number ≤ (window_held start b).number = made_below (window_held start b) b.number s held in
      let alike : (window_held start e.command).number ≡ (window_held start b).number =
      ap (λ (w : Window). w.number) (sym (held_alike start a e.command made.0) ∙ held_alike start a b same) in
      let number : e.command.number ≡ b.number = sym made.0.2 ∙ same.2 in
      omega (arith, above, below, alike, number)

  pub one_made : (a b : Command) (r s : ℕ) → IsSent a b → HasTaken start order a r → HasTaken start order b s → r ≡ s
  one_made a b r s same (inl x) (inl y) = elim (cases_lt x.0 y.0) [
    | inl less ↦ absurd (ordered_apart x.0 y.0 x.1 y.1 less y.2 x.3 y.3 (sent_through a x.1.command b y.1.command x.4.0 same y.4.0))
    | inr le ↦ elim (cases_lt y.0 x.0) [
      | inl less ↦ absurd (ordered_apart y.0 x.0 y.1 x.1 less x.2 y.3 x.3 (sent_through b y.1.command a x.1.command y.4.0 (sym same.0, sym same.1, sym same.2) x.4.0))
      | inr more ↦
          let at : x.0 ≡ y.0 = omega (arith, le, more) in
          let entry : x.1 ≡ y.1 = sym x.3 ∙ (ap (λ k. get_or order k x.1) at ∙ (get_or_default order y.0 x.1 y.1 y.2 ∙ y.3)) in
          sym x.4.1 ∙ (ap (λ (e : Entry). e.taken.revision) entry ∙ y.4.1)
    ]
  ]
  one_made a b r s same (inl x) (inr held) = absurd (not_before a b r s same x held)
  one_made a b r s same (inr held) (inl y) = absurd (not_before b a s r (sym same.0, sym same.1, sym same.2) y held)
  one_made a b r s same (inr one) (inr other) =
      some_same r s (sym one ∙ ((λ i. revision_in (same.2 i) (held_alike start a b same i)) ∙ other))

taken_more : (start : State) (first more : List Entry) (command : Command) (revision : ℕ) → HasTaken start first command revision → HasTaken start (first ++ more) command revision
taken_more start first more command revision (inl (k, e, long, is, made)) =
    inl (k, e, omega (arith, long, length-append first more), get_or_append_left first more e k long ∙ is, made)
taken_more start first more command revision (inr held) = inr held

-- orders, one behind the other
after-append : (documents : List Shown) (first more : List Entry) → after documents (first ++ more) ≡ after (after documents first) more
after-append documents first more =
    ap (fold_shown documents) (map-append (λ (e : Entry). e.taken) first more) ∙ fold_shown-append documents (takens first) (takens more)

placed-append : (documents : List Shown) (first more : List Entry) → AllPlaced documents first → AllPlaced (after documents first) more → AllPlaced documents (first ++ more)
placed-append documents [] more placed further = further
placed-append documents (entry ∷ others) more placed further = (placed.0, placed-append (grown_shown entry.taken documents) others more placed.1 further)

placed-first : (documents : List Shown) (first more : List Entry) → AllPlaced documents (first ++ more) → AllPlaced documents first
placed-first documents [] more placed = tt
placed-first documents (entry ∷ others) more placed = (placed.0, placed-first (grown_shown entry.taken documents) others more placed.1)

take-behind : {A : Type 0} (first more : List A) (n : ℕ) → take (length first + n) (first ++ more) ≡ first ++ take n more
take-behind {A = A} [] more n = ap (λ (k : ℕ). take k more) (let none : 0 + n ≡ n = omega arith in none)
take-behind {A = A} (x ∷ others) more n =
    ap (λ (k : ℕ). take k (x ∷ (others ++ more))) (let next : length (x ∷ others) + n ≡ suc (length others + n) = omega arith in next) ∙ ap (λ (l : List A). x ∷ l) (take-behind others more n)

-- What stands after lives: the commands have their places, the state shows what they make, and they have all that was acknowledged.
record Stood (start : State) (stand : List Entry) (acks : List Acknowledged) (now : State) : Type 0 where
  pub placed : AllPlaced (all_shown start) stand
  pub shows : all_shown now ≡ after (all_shown start) stand
  pub kept : All (λ (ack : Acknowledged). HasTaken start stand ack.command ack.revision) acks

-- what is behind it
module _ (start : State) (stand : List Entry) (acks : List Acknowledged) (now : State) (stood : Stood start stand acks now) where
  placed_behind : (order : List Entry) → IsLegal now order → AllPlaced (all_shown start) (stand ++ order)
  placed_behind order legal =
      placed-append (all_shown start) stand order stood.placed (subst (λ (d : List Shown). AllPlaced d order) stood.shows (legal_placed now order legal))

  shows_behind : (done : List Entry) → all_shown (fold now (takens done)) ≡ after (all_shown start) (stand ++ done)
  shows_behind done = shown-fold now (takens done) ∙ (ap (λ (d : List Shown). after d done) stood.shows ∙ sym (after-append (all_shown start) stand done))

  made_behind : (done : List Entry) (command : Command) (revision : ℕ) → IsMadeIn (all_shown now) done command revision → IsMadeIn (all_shown start) (stand ++ done) command revision
  made_behind done command revision made = record {
    count = length stand + made.count;
    within = omega (arith, made.within, length-append stand done);
    made = ap (λ (l : List Entry). revision_in command.number (window_in command.name command.source (after (all_shown start) l))) (take-behind stand done made.count)
        ∙ (ap (λ d. revision_in command.number (window_in command.name command.source d))
        (after-append (all_shown start) stand (take made.count done) ∙ ap (λ (d : List Shown). after d (take made.count done)) (sym stood.shows)) ∙ made.made);
  }

  -- with so much of one order more
  stood_behind : (done : List Entry) (given : List Acknowledged) (state : State) → AllPlaced (all_shown start) (stand ++ done) → all_shown state ≡ all_shown (fold now (takens done))
      → All (λ (ack : Acknowledged). IsMadeIn (all_shown now) done ack.command ack.revision) given → Stood start (stand ++ done) (acks ++ given) state
  stood_behind done given state placed same made = record {
    placed = placed;
    shows = same ∙ shows_behind done;
    kept = All-append (λ (ack : Acknowledged). HasTaken start (stand ++ done) ack.command ack.revision) acks given
        (All-weaker (λ (ack : Acknowledged). HasTaken start stand ack.command ack.revision) (λ (ack : Acknowledged). HasTaken start (stand ++ done) ack.command ack.revision)
        (λ ack has. taken_more start stand done ack.command ack.revision has) acks stood.kept)
        (All-weaker (λ (ack : Acknowledged). IsMadeIn (all_shown now) done ack.command ack.revision) (λ (ack : Acknowledged). HasTaken start (stand ++ done) ack.command ack.revision)
        (λ ack made. has_taken start (stand ++ done) placed ack.command ack.revision (made_behind done ack.command ack.revision made)) given made);
  }

-- what stands keeps what is promised
promised : (start : State) (order : List Entry) (acks : List Acknowledged) (now : State) → Stood start order acks now → IsPromised start order acks now
promised start order acks now stood = record {
  kept = stood.kept;
  apart = (once start order stood.placed).apart;
  anew = (once start order stood.placed).anew;
  one_revision = λ i j d less long same.
      one_made start order stood.placed (get_or acks i d).command (get_or acks j d).command (get_or acks i d).revision (get_or acks j d).revision same
      (stood.kept i d (omega (arith, less, long))) (stood.kept j d long);
  again = λ command revision some has last.
      let limited : State = record now { limits = start.limits } in
      let holds = consistent start order limited [] stood.placed stood.shows refl (All-nil (StandsSettled (all_shown start) order (length order))) in
      let is : answer limited command ≡ Repeats revision = taken-is_again (world_at start order limited []) holds command revision some has last in
      let held : revision_in command.number (window_held now command) ≡ Some revision = again_held limited command revision is in
      taken-is_again (begun now) (begun-holds now) command revision some (inr held) (omega arith);
  shows = stood.shows ∙ sym (shown-fold start (takens order));
}

-- exchanges, one behind the other
asks_split : (start : State) (old : Desk) (first more : List Exchange) (new : Desk) → Asks (PassesAtHub start) old (first ++ more) new
    → (mid : Desk) × Asks (PassesAtHub start) old first mid × Asks (PassesAtHub start) mid more new
asks_split start old [] more new asks = (old, refl, asks)
asks_split start old (exchange ∷ others) more new (next, does, rest) =
    let parts = asks_split start next others more new rest in
    (parts.0, (next, does, parts.1), parts.2)

-- the last of some exchanges
passed_last : (start : State) (old : Desk) (earlier : List Exchange) (exchange : Exchange) (new : Desk) → Asks (PassesAtHub start) old (earlier ++ exchange ∷ []) new
    → (before : Desk) × PassesAtHub start before exchange new
passed_last start old earlier exchange new asks =
    let parts = asks_split start old earlier (exchange ∷ []) new asks in
    let (next, does, same) = parts.2 in
    (parts.0, subst (λ (d : Desk). PassesAtHub start parts.0 exchange d) (sym same) does)

module _ {D : Type 0} {disk : Ghosts D} (old new : Store D disk) (life : Lived old new) where
  -- what is kept of the desk that gave an answer
  kept_of : (command : Command) (given : Result Told Refusal) (has : HasAnswered (state_of old) life.desks command given)
      → KeepsAnswers life.order life.written life.waiting life.moments old new has.after.1
  kept_of command given has =
      subst (λ (d : Desk). KeepsAnswers life.order life.written life.waiting life.moments old new d) has.after.3 (life.answers has.after.0 has.after.1 has.after.2)

  -- it was told of a prefix of what is written
  told_written : (command : Command) (given : Result Told Refusal) (has : HasAnswered (state_of old) life.desks command given) → IsPrefix has.mid.told life.written
  told_written command given has =
      prefix_trans has.mid.told has.after.1.told life.written (told_through (state_of old) has.later has.mid has.after.1 has.after.4) (kept_of command given has).told

  -- and so of the order
  told_first : (command : Command) (given : Result Told Refusal) (has : HasAnswered (state_of old) life.desks command given) → IsPrefix (commands_of has.mid.told) (takens life.order)
  told_first command given has =
      prefix_trans (commands_of has.mid.told) (commands_of (life.written ++ life.waiting)) (takens life.order)
      (commands_first has.mid.told (life.written ++ life.waiting) (prefix_trans has.mid.told life.written (life.written ++ life.waiting) (told_written command given has) (life.waiting, refl))) life.is_written.begins

  acknowledges : (command : Command) (reply : Told) (has : HasAnswered (state_of old) life.desks command (Ok reply))
      → (before : Desk) × Acknowledges (state_of old) before command reply has.mid
  acknowledges command reply has = passed_last (state_of old) first_desk has.earlier (Answered command (Ok reply)) has.mid has.before

  -- what a desk gave is made in all of the order that it had been told of
  given_made : (done : List Entry) (ack : Acknowledged) → HasGiven old new life (takens done) ack → IsMadeIn (all_shown (state_of old)) done ack.command ack.revision
  given_made done ack gave =
      let (before, does) = acknowledges ack.command gave.reply gave.answered in
      subst (λ (r : ℕ). IsMadeIn (all_shown (state_of old)) done ack.command r) gave.names
      (acknowledged_made (state_of old) before gave.answered.mid ack.command gave.reply done does gave.told)

  legal_first : (done : List Entry) → IsPrefix done life.order → (start : State) (stand : List Entry) (acks : List Acknowledged) → Stood start stand acks (state_of old)
      → AllPlaced (all_shown start) (stand ++ done)
  legal_first done (more, is) start stand acks stood =
      placed-first (all_shown start) (stand ++ done) more
      (subst (λ (l : List Entry). AllPlaced (all_shown start) l) (sym (append_assoc stand done more ∙ ap (λ (l : List Entry). stand ++ l) is))
      (placed_behind start stand acks (state_of old) stood life.order life.is_written.legal))

  -- a life adds to what stood
  stands_on : (start : State) (stand : List Entry) (acks : List Acknowledged) (done : List Entry) (given : List Acknowledged) (state : State) → Stood start stand acks (state_of old)
      → IsPrefix done life.order → all_shown state ≡ all_shown (fold (state_of old) (takens done)) → All (HasGiven old new life (takens done)) given
      → Stood start (stand ++ done) (acks ++ given) state
  stands_on start stand acks done given state stood first same gave =
      stood_behind start stand acks (state_of old) stood done given state (legal_first done first start stand acks stood) same
      (All-weaker (HasGiven old new life (takens done)) (λ (ack : Acknowledged). IsMadeIn (all_shown (state_of old)) done ack.command ack.revision) (λ ack gave. given_made done ack gave) given gave)

-- documents that agree show the same
one-shown : (a b : DocumentRecord) → DocumentsAgree a b → shown a ≡ shown b
one-shown a b same = λ i. record { name = same.name i; content = same.content i; revision = same.revision i; sources = same.sources i }

all-shown : (xs ys : List DocumentRecord) → ((number : ℕ) → PlacesAgree (slice_get xs number) (slice_get ys number)) → map shown xs ≡ map shown ys
all-shown [] [] same = refl
all-shown [] (y ∷ ys) same = absurd (same 0)
all-shown (x ∷ xs) [] same = absurd (same 0)
all-shown (x ∷ xs) (y ∷ ys) same = λ i. one-shown x y (same 0) i ∷ all-shown xs ys (λ number. same (suc number)) i

agree_shown : (a b : State) → Agree a b → all_shown a ≡ all_shown b
agree_shown a b same = all-shown a.documents b.documents same.documents

module _ (D : Type 0) (disk : Ghosts D) where
  lives_stand : (start : State) (stand : List Entry) (acks : List Acknowledged) (store : Store D disk) → Lives start stand acks store → Stood start stand acks (state_of store)
  lives_stand start _ _ _ (First store same) = record {
    placed = tt;
    shows = ap all_shown same;
    kept = All-nil (λ (ack : Acknowledged). HasTaken start [] ack.command ack.revision);
  }
  lives_stand start _ _ _ (Next stand acks old new next life left heard content before leaves opened) =
      let here = (opened.opened.1.runs_on opened.honest leaves.found.there leaves.found.found).1 in
      stands_on old new life start stand acks left heard (state_of next) (lives_stand start stand acks old before) leaves.first
      (agree_shown (state_of next) leaves.found.there here ∙ leaves.found.shows) leaves.given

  pub lives_kept : LivesKept D disk
  lives_kept start stand acks store lives = promised start stand acks (state_of store) (lives_stand start stand acks store lives)

  pub all_lives : AllLives D disk
  all_lives start stand acks old new life done given lives first gave =
      promised start (stand ++ done) (acks ++ given) (fold (state_of old) (takens done))
      (stands_on old new life start stand acks done given (fold (state_of old) (takens done)) (lives_stand start stand acks old lives) first refl gave)

-- the last of a list that is one longer
last_at : {A : Type 0} (xs : List A) (x d : A) → get_or (xs ++ x ∷ []) (length xs) d ≡ x
last_at [] x d = refl
last_at (y ∷ ys) x d = last_at ys x d

-- what stands isn't the last command of what is placed behind it
not_last : (start : State) (stand before : List Entry) (entry : Entry) (command : Command) (revision : ℕ) → AllPlaced (all_shown start) (stand ++ (before ++ entry ∷ []))
    → IsSent command entry.command → HasTaken start stand command revision → ⊥
not_last start stand before entry command revision placed same has = by_case has
  where
    here : AllPlaced (all_shown start) ((stand ++ before) ++ entry ∷ [])
    here = subst (λ (l : List Entry). AllPlaced (all_shown start) l) (sym (append_assoc stand before (entry ∷ []))) placed

    long : length (stand ++ before) < length ((stand ++ before) ++ entry ∷ [])
    long = omega (arith, length-append (stand ++ before) (entry ∷ []))

    by_case : HasTaken start stand command revision → ⊥
    by_case (inl (k, e, inside, is, made)) =
        ordered_apart start ((stand ++ before) ++ entry ∷ []) here k (length (stand ++ before)) e entry (omega (arith, inside, length-append stand before)) long
        (get_or_append_left (stand ++ before) (entry ∷ []) e k (omega (arith, inside, length-append stand before)) ∙ (get_or_append_left stand before e k inside ∙ is))
        (last_at (stand ++ before) entry entry) (sent_through command e.command command entry.command made.0 (refl, refl, refl) same)
    by_case (inr held) =
        not_before start ((stand ++ before) ++ entry ∷ []) here command command entry.taken.revision revision (refl, refl, refl)
        (length (stand ++ before), entry, long, last_at (stand ++ before) entry entry, (same, refl)) held

-- so a command that stands isn't taken by a desk
not_taken : (start : State) (stand : List Entry) (acks : List Acknowledged) (now : State) (old new : Desk) (command : Command) (revision made : ℕ) → Stood start stand acks now
    → HasTaken start stand command revision → Acknowledges now old command (TookAt made) new → ⊥
not_taken start stand acks now old new command revision made stood has does = by_reply does.ticket.reply does.answer does.stands.placed.reply
  where
    by_reply : (due : Reply) → answered due ≡ Ok (TookAt made) → PlacedBy now does.stands.order does.ticket.command due → ⊥
    by_reply (TakenAt at) is (before, taken, whole, takes, revision_is) =
        not_last start stand before (entry_of does.ticket.command taken) command revision
        (subst (λ (l : List Entry). AllPlaced (all_shown start) (stand ++ l)) whole (placed_behind start stand acks now stood does.stands.order does.stands.legal))
        (ap (λ (c : Command). c.name) (sym does.submits.of_command), ap (λ (c : Command). c.source) (sym does.submits.of_command), ap (λ (c : Command). c.number) (sym does.submits.of_command)) has
    by_reply (AgainAt at) is placed = absurd (cc (is))
    by_reply (Refused refusal) is placed = absurd placed

-- what was taken before has the revision that a desk names of it
again_at : {D : Type 0} {disk : Ghosts D} (start : State) (stand : List Entry) (acks : List Acknowledged) (old new : Store D disk) (life : Lived old new) (command : Command) (revision : ℕ) (reply : Told)
    → Stood start stand acks (state_of old) → HasTaken start stand command revision → HasAnswered (state_of old) life.desks command (Ok reply) → rev_of reply ≡ revision
again_at start stand acks old new life command revision reply stood has answers =
    let (before, does) = acknowledges old new life command reply answers in
    let placed = legal_first old new life life.order ([], append-nil life.order) start stand acks stood in
    let made = acknowledged_made (state_of old) before answers.mid command reply life.order does (told_first old new life command (Ok reply) answers) in
    one_made start (stand ++ life.order) placed command command (rev_of reply) revision (refl, refl, refl)
    (has_taken start (stand ++ life.order) placed command (rev_of reply) (made_behind start stand acks (state_of old) stood life.order command (rev_of reply) made))
    (taken_more start stand life.order command revision has)

module _ (D : Type 0) (disk : Ghosts D) where
  refused_again : (start : State) (stand : List Entry) (acks : List Acknowledged) (old new : Store D disk) (life : Lived old new) (command : Command) (revision : ℕ) (refusal : Refusal)
      → Lives start stand acks old → HasTaken start stand command revision → (answers : HasAnswered (state_of old) life.desks command (Err refusal))
      → 1 ≤ command.number → last_taken command (stand ++ answers.mid.found) < command.number + longest → (refusal ≡ NoMemory) ⊎ (refusal ≡ StoreFailed)
  refused_again start stand acks old new life command revision refusal lives has answers some last =
      by_desk (passed_last (state_of old) first_desk answers.earlier (Answered command (Err refusal)) answers.mid answers.before)
    where
      by_rule : IsRefusedAfter (state_of old) answers.mid.found command refusal → (refusal ≡ NoMemory) ⊎ (refusal ≡ StoreFailed)
      by_rule at = elim at.rule [
        | inl memory ↦ inl memory
        | inr refused ↦
            let done = answers.mid.found in
            let begins : IsPrefix done life.order = (kept_of old new life command (Err refusal) answers).found answers.later answers.mid answers.after.4 in
            let kept = all_lives D disk start stand acks old new life done [] lives begins (All-nil (HasGiven old new life (takens done))) in
            let repeats : answer (fold (state_of old) (takens done)) command ≡ Repeats revision =
            kept.again command revision some (taken_more start stand done command revision has) last in
            absurd (cc (repeats, refused))
      ]

      by_desk : (before : Desk) × Refuses (state_of old) before command refusal answers.mid → (refusal ≡ NoMemory) ⊎ (refusal ≡ StoreFailed)
      by_desk (before, inl (same, memory)) = inl memory
      by_desk (before, inr (inl at)) = by_rule at.refused
      by_desk (before, inr (inr (failed, stops))) = inr failed

  pub asked_again : AskedAgain D disk
  asked_again start stand acks old new life command revision (Ok (WasAt at)) lives has answers =
      ap (λ r. WasAt r) (again_at start stand acks old new life command revision (WasAt at) (lives_stand D disk start stand acks old lives) has answers)
  asked_again start stand acks old new life command revision (Ok (TookAt at)) lives has answers =
      let (before, does) = acknowledges old new life command (TookAt at) answers in
      absurd (not_taken start stand acks (state_of old) before answers.mid command revision at (lives_stand D disk start stand acks old lives) has does)
  asked_again start stand acks old new life command revision (Err refusal) lives has answers = λ some last.
      refused_again start stand acks old new life command revision refusal lives has answers some last

-- what was kept from a moment on is so in what a crash leaves from there on
left_from : {D : Type 0} {disk : Ghosts D} {P : List ℕ → Type 0} (first last : Store D disk) (content : List ℕ) → LeavesOnly disk P (device_of first) (device_of last)
    → IsLeftFrom (history_of disk (device_of first)) last content → P content
left_from first last content leaves (inl since) = leaves_since leaves content since
left_from first last content leaves (inr now) = leaves.last content now

-- what a device had been through at a moment
moment_at : (begun : History) (earlier later : List Moment) (moment : Moment) (batch : List Taken) (others : List (List Taken)) → length earlier ≡ length others
    → history_at begun (earlier ++ moment ∷ later) (batch ∷ others) ≡ moment.device
moment_at begun [] later moment batch [] same = refl
moment_at begun [] later moment batch (next ∷ others) same = absurd (omega (arith, same))
moment_at begun (first ∷ earlier) later moment batch [] same = absurd (omega (arith, same))
moment_at begun (first ∷ earlier) later moment batch (next ∷ others) same = moment_at first.device earlier later moment next others (omega (arith, same))

module _ {D : Type 0} {disk : Ghosts D} where
  store_at : (old between : Store D disk) (moments : List Moment) (told : List (List Taken)) → IsAtMoment moments told old between
      → history_at (history_of disk (device_of old)) moments told ≡ history_of disk (device_of between)
  store_at old between moments [] same = ap (λ (s : Store D disk). history_of disk (device_of s)) (sym same)
  store_at old between moments (batch ∷ others) (earlier, later, whole, count) =
      ap (λ (l : List Moment). history_at (history_of disk (device_of old)) l (batch ∷ others)) whole
      ∙ moment_at (history_of disk (device_of old)) earlier later (moment_now between) batch others count

module _ {D : Type 0} {disk : Ghosts D} (old new : Store D disk) (life : Lived old new) (content : List ℕ) where
  -- a desk gave an acknowledgement, when it had been told of so many commands at most
  record IsToldOf (count : ℕ) (ack : Acknowledged) : Type 0 where
    pub reply : Told
    pub names : rev_of reply ≡ ack.revision
    pub answered : HasAnswered (state_of old) life.desks ack.command (Ok reply)
    pub few : length (commands_of answered.mid.told) ≤ count

  -- the content is that of batches which have all that these acknowledgements were told of
  record HasAllOf (heard : List Acknowledged) : Type 0 where
    pub begins : IsBeginning 0 (state_of old) (life.written ++ life.waiting) content
    pub told : All (IsToldOf (length (commands_of begins.first))) heard

  -- what the content has, where a crash left it after the commit of a batch
  begins_from : has_failed old ≡ false → IsOpen old → (ack : Acknowledged) (heard : WasHeard old new life content ack) → AreLasting life.written life.waiting life.moments old new
      → IsBeginning (length (commands_of heard.answered.mid.told)) (state_of old) (life.written ++ life.waiting) content
  begins_from works is_open ack heard lasting =
      let (was, at) = was_kept life.written life.waiting life.moments old new life.is_written.goes lasting.each heard.answered.mid.told
      (told_written old new life ack.command (Ok heard.reply) heard.answered) in
      left_from was.between new content (was.behind.any_moment (was.works works) (was.before.opens (was.works works) is_open))
      (subst (λ (h : History). IsLeftFrom h new content) (store_at old was.between life.moments heard.answered.mid.told at) heard.since)

  -- one more, which was told of more or of fewer
  one_more_of : has_failed old ≡ false → IsOpen old → AreLasting life.written life.waiting life.moments old new → (ack : Acknowledged) (others : List Acknowledged)
      → WasHeard old new life content ack → HasAllOf others → HasAllOf (ack ∷ others)
  one_more_of works is_open lasting ack others heard rest = by_length (cases_lt (length (commands_of rest.begins.first)) (length (commands_of heard.answered.mid.told)))
    where
      by_length : (length (commands_of rest.begins.first) < length (commands_of heard.answered.mid.told)) ⊎ (length (commands_of heard.answered.mid.told) ≤ length (commands_of rest.begins.first))
          → HasAllOf (ack ∷ others)
      by_length (inl more) =
          let here = begins_from works is_open ack heard lasting in
          record {
            begins = record { first = here.first; more = here.more; whole = here.whole; enough = omega arith; found = here.found };
            told = All-cons (IsToldOf (length (commands_of here.first))) ack others (record { reply = heard.reply; names = heard.names; answered = heard.answered; few = here.enough })
                (All-weaker (IsToldOf (length (commands_of rest.begins.first))) (IsToldOf (length (commands_of here.first)))
                (λ a told. record { reply = told.reply; names = told.names; answered = told.answered; few = omega (arith, told.few, more, here.enough) }) others rest.told);
          }
      by_length (inr le) = record {
        begins = rest.begins;
        told = All-cons (IsToldOf (length (commands_of rest.begins.first))) ack others (record { reply = heard.reply; names = heard.names; answered = heard.answered; few = le }) rest.told;
      }

  all_of : has_failed old ≡ false → IsOpen old → AreLasting life.written life.waiting life.moments old new → IsLeftFrom (history_of disk (device_of old)) new content → (heard : List Acknowledged) → All (WasHeard old new life content) heard → HasAllOf heard
  all_of works is_open lasting left [] each = record {
    begins = left_from old new content (life.is_written.goes.any_moment works is_open) left;
    told = All-nil (IsToldOf (length (commands_of (left_from old new content (life.is_written.goes.any_moment works is_open) left).first)));
  }
  all_of works is_open lasting left (ack ∷ others) each =
      one_more_of works is_open lasting ack others (each 0 ack (omega arith)) (all_of works is_open lasting left others (λ k d less. each (suc k) d (omega (arith, less))))

pub crash_leaves : (D : Type 0) (disk : Ghosts D) → CrashLeaves D disk
crash_leaves D disk old new life heard content works is_open left each = ∥∥₁_map life.kept (λ lasting.
    let all = all_of old new life content works is_open lasting left heard each in
    let commands = commands_of all.begins.first in
    let begins : IsPrefix (commands_of all.begins.first) (takens life.order) =
    prefix_trans (commands_of all.begins.first) (commands_of (life.written ++ life.waiting)) (takens life.order)
    (commands_first all.begins.first (life.written ++ life.waiting) (all.begins.more, all.begins.whole)) life.is_written.begins in
    let stand = take (length commands) life.order in
    let first : IsPrefix stand life.order = (drop (length commands) life.order, take-append-drop (length commands) life.order) in
    let same : takens stand ≡ commands = first_takens commands life.order begins in (
      stand,
      record {
        first = first;
        found = record { there = fold (state_of old) commands; found = all.begins.found; shows = ap (λ (l : List Taken). all_shown (fold (state_of old) l)) (sym same) };
        given = All-weaker (IsToldOf old new life content (length commands)) (HasGiven old new life (takens stand))
            (λ ack told. record {
              reply = told.reply;
              names = told.names;
              answered = told.answered;
              told = prefix_shorter (commands_of told.answered.mid.told) (takens stand) (takens life.order) (told_first old new life ack.command (Ok told.reply) told.answered)
                  (takens_begin stand life.order first) (omega (arith, told.few, ap (λ (l : List Taken). length l) same));
            }) heard all.told;
      },
    ))

pub copy_leaves : (D : Type 0) (disk : Ghosts D) → CopyLeaves D disk
copy_leaves D disk old new life left heard content other copy limits leaves found same = record {
  first = leaves.first;
  found = record {
    there = copy;
    found = found;
    shows = agree_shown copy (record leaves.found.there { limits = limits }) same ∙ leaves.found.shows;
  };
  given = leaves.given;
}

pub opens_again : (D : Type 0) (disk : Ghosts D) → OpensAgain D disk
opens_again D disk old new next life left heard content leaves opened = (
  (opened.opened.1.runs_on opened.honest leaves.found.there leaves.found.found).0,
  opened.opened.1.works,
)
