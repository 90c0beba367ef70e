-- The calls and answers of a run, as events of a world.
use Rattle.std.proofs.Common.{◌≡◌, ◌≤◌, ℕ, zero, suc, ◌+◌, true, Option, Some, None, List, [], ◌∷◌, ◌++◌, length, drop, refl, sym, ◌∙◌, ap, subst, arith, append_assoc, append-nil, length-append, length-drop}
use Rattle.std.specs.Prelude.{slice_get, option_to_list}
use Rattle.std.proofs.lemmas.List.{length-map}
use Rattle.disk.specs.declared.device.Disk.{Ghosts}
use Rattle.revision.specs.Command.{Taken, Command}
use Rattle.revision.specs.Acceptance.{Answer as Outcome, Takes, Repeats, Refuses, answer}
use Rattle.world.specs.Progress.{Progress, Ticket, submitted, submitted_by, ticket_of, ticket_by, taken_more, settled_more}
use Rattle.world.specs.Event.{Event, Ack as Acknowledges}
use Rattle.world.specs.World.{Entry, entry_of, World}
use Rattle.world.specs.Step.{is_numbered, run}
use Rattle.hub.specs.Legal.{Board as Behind}
use Rattle.lives.specs.declared.calls.Call.{Call}
use Rattle.lives.specs.declared.calls.Call.TheVariants.{Submit, Turn, Ack, Milestone, Retire}
use Rattle.lives.specs.declared.calls.Answer.{Answer}
use Rattle.lives.specs.declared.calls.Answer.TheVariants.{Submitted, Turned, Acked, Put, Retired, Refused}
use Rattle.hub.specs.Runs.{IsLongest, untaken}
use Rattle.lives.specs.Driving.{Between, AckGives, Gives, Answered, Begins, Follows}
use Rattle.lives.specs.Schedule.{at_rest, command_of, commands_in, IsNumbered, AreNumbered, events_of, schedule, acked_by, acked, IsAllSettled, IsSchedule, RunIsSchedule, FirstIsSchedule}
use Rattle.lives.proofs.Resting.{run-append, submit_rests, turn_rests, ack_rests, ack_waits, ack_missing, compose_rests}
use Rattle.lives.proofs.Answering.{before_more}

-- worlds at rest with equal parts
same_rest : (board after : Progress Entry) (tickets out acks more : List Ticket) (sent later : List Command) (composed : List (ℕ × ℕ)) → board ≡ after → tickets ≡ out → acks ≡ more → sent ≡ later
    → at_rest board tickets acks sent composed ≡ at_rest after out more later composed
same_rest board after tickets out acks more sent later composed b t a s = λ i. at_rest (b i) (t i) (a i) (s i) composed

-- what is at a place behind other items
behind : {A : Type 0} (earlier items : List A) (at : ℕ) → slice_get (earlier ++ items) (length earlier + at) ≡ slice_get items at
behind [] items at = ap (slice_get items) (let none : 0 + at ≡ at = omega arith in none)
behind (first ∷ others) items at =
    ap (slice_get (first ∷ (others ++ items))) (let next : length (first ∷ others) + at ≡ suc (length others + at) = omega arith in next) ∙ behind others items at

submitted_settled : (entry : Taken → Entry) (board : Progress Entry) (a : Outcome) → IsAllSettled board → IsAllSettled (submitted_by entry board a)
submitted_settled entry board (Takes taken) rest = record { taken = rest.taken; within = omega (arith, rest.within, length-append board.order (entry taken ∷ [])) }
submitted_settled entry board (Repeats revision) rest = rest
submitted_settled entry board (Refuses refusal) rest = rest

submitted_start : (entry : Taken → Entry) (board : Progress Entry) (a : Outcome) → (submitted_by entry board a).start ≡ board.start
submitted_start entry board (Takes taken) = refl
submitted_start entry board (Repeats revision) = refl
submitted_start entry board (Refuses refusal) = refl

turned_settled : (board : Progress Entry) (count : ℕ) → IsAllSettled board → board.taken + count ≤ length board.order → IsAllSettled (settled_more (taken_more board count) count)
turned_settled board count rest long = record { taken = ap (λ (n : ℕ). n + count) rest.taken; within = omega (arith, long, rest.taken) }

-- so many commands are left to take off
long_enough : (cap : ℕ) (board : Progress Entry) (count : ℕ) → IsAllSettled board → IsLongest cap (untaken board) count → board.taken + count ≤ length board.order
long_enough cap board count rest longest =
    omega (arith, longest.within, rest.taken, rest.within, length-map (drop board.taken board.order) (λ (e : Entry). e.taken), length-drop {A = Entry} board.taken board.order)

module _ {D L : Type 0} where
  -- an acknowledgement that gave a token named a ticket
  abbrev IsFound : List Ticket → Call → Answer D L → Type 0
  IsFound tickets (Ack at) (Acked (Some told)) = (ticket : Ticket) × (slice_get tickets at ≡ Some ticket)
  IsFound tickets call reply = Unit {0}

  abbrev AreFound : List Ticket → List Call → List (Answer D L) → Type 0
  AreFound tickets [] answers = Unit {0}
  AreFound tickets (call ∷ calls) [] = Unit {0}
  AreFound tickets (call ∷ calls) (reply ∷ answers) = IsFound tickets call reply × AreFound tickets calls answers

-- an acknowledgement, by the ticket that it names and what it gave
ack_world : (D L : Type 0) (here : Behind) (tickets : List Ticket) (at : ℕ) (found : Option Ticket) (told : Option (List (List Taken))) → slice_get tickets at ≡ found → AckGives here found told
    → (earlier acks : List Ticket) (sent : List Command) (composed : List (ℕ × ℕ))
    → run (at_rest here.progress (earlier ++ tickets) acks sent composed) (Acknowledges (length earlier + at) ∷ [])
    ≡ at_rest here.progress (earlier ++ tickets) (acks ++ acked_by {D = D} {L = L} tickets (Ack at) (Acked told)) sent composed
ack_world D L here tickets at None None is gives earlier acks sent composed =
    ack_missing here.progress (earlier ++ tickets) acks sent composed (length earlier + at) (behind earlier tickets at ∙ is)
    ∙ ap (λ (l : List Ticket). at_rest here.progress (earlier ++ tickets) l sent composed) (sym (append-nil acks))
ack_world D L here tickets at None (Some told) is gives earlier acks sent composed = absurd (let no : ⊥ = cc in no)
ack_world D L here tickets at (Some ticket) None is gives earlier acks sent composed =
    ack_waits here.progress (earlier ++ tickets) acks sent composed (length earlier + at) ticket (behind earlier tickets at ∙ is) gives
    ∙ ap (λ (l : List Ticket). at_rest here.progress (earlier ++ tickets) l sent composed) (sym (append-nil acks))
ack_world D L here tickets at (Some ticket) (Some told) is gives earlier acks sent composed =
    ack_rests here.progress (earlier ++ tickets) acks sent composed (length earlier + at) ticket (behind earlier tickets at ∙ is) gives.0
    ∙ ap (λ (o : Option Ticket). at_rest here.progress (earlier ++ tickets) (acks ++ option_to_list o) sent composed) (sym is)

ack_found : (D L : Type 0) (here : Behind) (tickets out : List Ticket) (at : ℕ) (found : Option Ticket) (told : Option (List (List Taken))) → slice_get tickets at ≡ found → AckGives here found told → out ≡ tickets
    → IsFound {D = D} {L = L} out (Ack at) (Acked told)
ack_found D L here tickets out at found None is gives same = tt
ack_found D L here tickets out at None (Some told) is gives same = absurd (let no : ⊥ = cc in no)
ack_found D L here tickets out at (Some ticket) (Some told) is gives same = (ticket, ap (λ (l : List Ticket). slice_get l at) same ∙ is)

module _ {D L : Type 0} where
  -- What a call makes of a world at rest.
  record Rests (board after : Progress Entry) (tickets out : List Ticket) (call : Call) (reply : Answer D L) : Type 0 where
    pub start : after.start ≡ board.start
    pub settled : IsAllSettled after
    pub tickets_more : (l : List Ticket) × (out ≡ tickets ++ l)
    pub acks : acked_by out call reply ≡ acked_by tickets call reply
    pub found : IsFound out call reply
    pub goes : (earlier acks : List Ticket) (sent : List Command) (composed : List (ℕ × ℕ)) → (more : List (ℕ × ℕ))
        × (run (at_rest board (earlier ++ tickets) acks sent composed) (events_of (length earlier) call reply)
        ≡ at_rest after (earlier ++ out) (acks ++ acked_by tickets call reply) (sent ++ command_of call) more)

  -- a call that changes nothing and is no event
  still : (board after : Progress Entry) (tickets out : List Ticket) (call : Call) (reply : Answer D L) → IsAllSettled board → after ≡ board → out ≡ tickets
      → ((t : List Ticket) → acked_by t call reply ≡ []) → ((t : List Ticket) → IsFound t call reply) → command_of call ≡ [] → ((n : ℕ) → events_of n call reply ≡ []) → Rests board after tickets out call reply
  still board after tickets out call reply rest b t acks found sends events = record {
    start = ap (λ (x : Progress Entry). x.start) b;
    settled = subst IsAllSettled (sym b) rest;
    tickets_more = ([], t ∙ sym (append-nil tickets));
    acks = acks out ∙ sym (acks tickets);
    found = found out;
    goes = λ earlier a s c. (
      c,
      ap (run (at_rest board (earlier ++ tickets) a s c)) (events (length earlier))
          ∙ same_rest board after (earlier ++ tickets) (earlier ++ out) a (a ++ acked_by tickets call reply) s (s ++ command_of call) c (sym b) (ap (λ (l : List Ticket). earlier ++ l) (sym t))
          (sym (append-nil a) ∙ ap (λ (l : List Ticket). a ++ l) (sym (acks tickets))) (sym (append-nil s) ∙ ap (λ (l : List Command). s ++ l) (sym sends)),
    );
  }

  submit_case : (board after : Progress Entry) (tickets out : List Ticket) (command : Command) (reply : Answer D L) → is_numbered command ≡ true → IsAllSettled board
      → after ≡ submitted (entry_of command) board command → out ≡ tickets ++ option_to_list (ticket_of board command)
      → Rests board after tickets out (Submit command) reply
  submit_case board after tickets out command reply numbered rest b t = record {
    start = ap (λ (x : Progress Entry). x.start) b ∙ submitted_start (entry_of command) board (answer board.state command);
    settled = subst IsAllSettled (sym b) (submitted_settled (entry_of command) board (answer board.state command) rest);
    tickets_more = (option_to_list (ticket_of board command), t);
    acks = refl;
    found = tt;
    goes = λ earlier a s c. (
      c,
      submit_rests board (earlier ++ tickets) a s c command numbered rest.within
          ∙ same_rest (submitted (entry_of command) board command) after ((earlier ++ tickets) ++ option_to_list (ticket_of board command)) (earlier ++ out) a (a ++ []) (s ++ command ∷ []) (s ++ command ∷ []) c
          (sym b) (append_assoc earlier tickets (option_to_list (ticket_of board command)) ∙ ap (λ (l : List Ticket). earlier ++ l) (sym t)) (sym (append-nil a)) refl,
    );
  }

  turn_case : (cap : ℕ) (board after : Progress Entry) (tickets out : List Ticket) (count : ℕ) → IsAllSettled board → IsLongest cap (untaken board) count
      → after ≡ settled_more (taken_more board count) count → out ≡ tickets → Rests board after tickets out Turn (Turned count)
  turn_case cap board after tickets out zero rest longest b t =
      still board after tickets out Turn (Turned zero) rest (b ∙ nothing) t (λ x. refl) (λ x. tt) refl (λ n. refl)
    where
      nothing : settled_more (taken_more board 0) 0 ≡ board
      nothing = λ i. record board { taken = (let e : board.taken + 0 ≡ board.taken = omega arith in e) i; settled = (let e : board.settled + 0 ≡ board.settled = omega arith in e) i }
  turn_case cap board after tickets out (suc n) rest longest b t = record {
    start = ap (λ (x : Progress Entry). x.start) b;
    settled = subst IsAllSettled (sym b) (turned_settled board (suc n) rest (long_enough cap board (suc n) rest longest));
    tickets_more = ([], t ∙ sym (append-nil tickets));
    acks = refl;
    found = tt;
    goes = λ earlier a s c. (
      c,
      turn_rests board (earlier ++ tickets) a s c (suc n) (omega arith) rest.taken (long_enough cap board (suc n) rest longest)
          ∙ same_rest (settled_more (taken_more board (suc n)) (suc n)) after (earlier ++ tickets) (earlier ++ out) a (a ++ []) s (s ++ []) c
          (sym b) (ap (λ (l : List Ticket). earlier ++ l) (sym t)) (sym (append-nil a)) (sym (append-nil s)),
    );
  }

  ack_case : (here : Behind) (after : Progress Entry) (tickets out : List Ticket) (at : ℕ) (told : Option (List (List Taken))) → IsAllSettled here.progress → after ≡ here.progress → out ≡ tickets
      → AckGives here (slice_get tickets at) told → Rests here.progress after tickets out (Ack at) (Acked told)
  ack_case here after tickets out at told rest b t gives = record {
    start = ap (λ (x : Progress Entry). x.start) b;
    settled = subst IsAllSettled (sym b) rest;
    tickets_more = ([], t ∙ sym (append-nil tickets));
    acks = ap (λ (l : List Ticket). acked_by {D = D} {L = L} l (Ack at) (Acked told)) t;
    found = ack_found D L here tickets out at (slice_get tickets at) told refl gives t;
    goes = λ earlier a s c. (
      c,
      ack_world D L here tickets at (slice_get tickets at) told refl gives earlier a s c
          ∙ same_rest here.progress after (earlier ++ tickets) (earlier ++ out) (a ++ acked_by {D = D} {L = L} tickets (Ack at) (Acked told)) (a ++ acked_by {D = D} {L = L} tickets (Ack at) (Acked told)) s (s ++ []) c
          (sym b) (ap (λ (l : List Ticket). earlier ++ l) (sym t)) refl (sym (append-nil s)),
    );
  }

  put_case : (board after : Progress Entry) (tickets out : List Ticket) (document revision : ℕ) → IsAllSettled board → after ≡ board → out ≡ tickets
      → Rests board after tickets out (Milestone document revision) Put
  put_case board after tickets out document revision rest b t = record {
    start = ap (λ (x : Progress Entry). x.start) b;
    settled = subst IsAllSettled (sym b) rest;
    tickets_more = ([], t ∙ sym (append-nil tickets));
    acks = refl;
    found = tt;
    goes = λ earlier a s c. let put = compose_rests board (earlier ++ tickets) a s c document revision in
        (put.0, put.1 ∙ same_rest board after (earlier ++ tickets) (earlier ++ out) a (a ++ []) s (s ++ []) put.0 (sym b) (ap (λ (l : List Ticket). earlier ++ l) (sym t)) (sym (append-nil a)) (sym (append-nil s)));
  }

  schedule-push : (earlier : ℕ) (calls : List Call) (answers : List (Answer D L)) (call : Call) (reply : Answer D L) → length calls ≡ length answers
      → schedule earlier (calls ++ call ∷ []) (answers ++ reply ∷ []) ≡ schedule earlier calls answers ++ events_of earlier call reply
  schedule-push earlier [] [] call reply same = append-nil (events_of earlier call reply)
  schedule-push earlier [] (other ∷ answers) call reply same = absurd (omega arith)
  schedule-push earlier (first ∷ calls) [] call reply same = absurd (omega arith)
  schedule-push earlier (first ∷ calls) (other ∷ answers) call reply same =
      ap (λ (l : List Event). events_of earlier first other ++ l) (schedule-push earlier calls answers call reply (omega arith))
      ∙ sym (append_assoc (events_of earlier first other) (schedule earlier calls answers) (events_of earlier call reply))

  acked-push : (tickets : List Ticket) (calls : List Call) (answers : List (Answer D L)) (call : Call) (reply : Answer D L) → length calls ≡ length answers
      → acked tickets (calls ++ call ∷ []) (answers ++ reply ∷ []) ≡ acked tickets calls answers ++ acked_by tickets call reply
  acked-push tickets [] [] call reply same = append-nil (acked_by tickets call reply)
  acked-push tickets [] (other ∷ answers) call reply same = absurd (omega arith)
  acked-push tickets (first ∷ calls) [] call reply same = absurd (omega arith)
  acked-push tickets (first ∷ calls) (other ∷ answers) call reply same =
      ap (λ (l : List Ticket). acked_by tickets first other ++ l) (acked-push tickets calls answers call reply (omega arith))
      ∙ sym (append_assoc (acked_by tickets first other) (acked tickets calls answers) (acked_by tickets call reply))

  found-push : (tickets : List Ticket) (calls : List Call) (answers : List (Answer D L)) (call : Call) (reply : Answer D L) → AreFound tickets calls answers → IsFound tickets call reply
      → length calls ≡ length answers → AreFound tickets (calls ++ call ∷ []) (answers ++ reply ∷ [])
  found-push tickets [] [] call reply found last same = (last, tt)
  found-push tickets [] (other ∷ answers) call reply found last same = absurd (omega arith)
  found-push tickets (first ∷ calls) [] call reply found last same = absurd (omega arith)
  found-push tickets (first ∷ calls) (other ∷ answers) call reply found last same = (found.0, found-push tickets calls answers call reply found.1 last (omega arith))

  found_later : (tickets out l : List Ticket) (call : Call) (reply : Answer D L) → out ≡ tickets ++ l → IsFound tickets call reply
      → IsFound out call reply × (acked_by out call reply ≡ acked_by tickets call reply)
  found_later tickets out l (Ack at) (Acked (Some told)) more found =
      let later = ap (λ (t : List Ticket). slice_get t at) more ∙ before_more tickets l at found.0 found.1 in
      ((found.0, later), ap option_to_list (later ∙ sym found.1))
  found_later tickets out l (Ack at) (Acked None) more found = (tt, refl)
  found_later tickets out l (Ack at) (Submitted n) more found = (tt, refl)
  found_later tickets out l (Ack at) (Turned n) more found = (tt, refl)
  found_later tickets out l (Ack at) Put more found = (tt, refl)
  found_later tickets out l (Ack at) Retired more found = (tt, refl)
  found_later tickets out l (Ack at) (Refused refusal) more found = (tt, refl)
  found_later tickets out l (Submit command) reply more found = (tt, refl)
  found_later tickets out l Turn reply more found = (tt, refl)
  found_later tickets out l (Milestone document revision) reply more found = (tt, refl)
  found_later tickets out l Retire reply more found = (tt, refl)

  all_later : (tickets out l : List Ticket) (calls : List Call) (answers : List (Answer D L)) → out ≡ tickets ++ l → AreFound tickets calls answers
      → AreFound out calls answers × (acked out calls answers ≡ acked tickets calls answers)
  all_later tickets out l [] answers more found = (tt, refl)
  all_later tickets out l (call ∷ calls) [] more found = (tt, refl)
  all_later tickets out l (call ∷ calls) (reply ∷ answers) more found =
      let one = found_later tickets out l call reply more found.0 in
      let others = all_later tickets out l calls answers more found.1 in
      ((one.0, others.0), ap (λ (x : List Ticket). x ++ acked out calls answers) one.1 ∙ ap (λ (x : List Ticket). acked_by tickets call reply ++ x) others.1)

commands-push : (calls : List Call) (call : Call) → commands_in (calls ++ call ∷ []) ≡ commands_in calls ++ command_of call
commands-push [] call = append-nil (command_of call)
commands-push (first ∷ calls) call = ap (λ (l : List Command). command_of first ++ l) (commands-push calls call) ∙ sym (append_assoc (command_of first) (commands_in calls) (command_of call))

numbered-parts : (calls : List Call) (call : Call) → AreNumbered (calls ++ call ∷ []) → AreNumbered calls × IsNumbered call
numbered-parts [] call numbered = (tt, numbered.0)
numbered-parts (first ∷ calls) call numbered = let parts = numbered-parts calls call numbered.1 in ((numbered.0, parts.0), parts.1)

module _ {D L : Type 0} {disk : Ghosts D} where
  -- a call, by what it gives
  call_rests : (cap : ℕ) (here : Between D disk) (call : Call) (reply : Answer D L) (after : Between D disk) → IsNumbered call → IsAllSettled here.board.progress → Gives cap here call reply after
      → Rests here.board.progress after.board.progress here.tickets after.tickets call reply
  call_rests cap here (Submit command) (Submitted at) after numbered rest gives =
      submit_case here.board.progress after.board.progress here.tickets after.tickets command (Submitted at) numbered rest (ap (λ (b : Behind). b.progress) gives.0)
      (gives.2.2 ∙ ap (λ (o : Option Ticket). here.tickets ++ option_to_list o) gives.2.1)
  call_rests cap here (Submit command) (Refused refusal) after numbered rest gives =
      submit_case here.board.progress after.board.progress here.tickets after.tickets command (Refused refusal) numbered rest
      (ap (λ (b : Between D disk). b.board.progress) gives.0 ∙ ap (submitted_by (entry_of command) here.board.progress) (sym gives.1))
      (ap (λ (b : Between D disk). b.tickets) gives.0 ∙ (sym (append-nil here.tickets) ∙ ap (λ (o : Outcome). here.tickets ++ option_to_list (ticket_by here.board.progress command o)) (sym gives.1)))
  call_rests cap here Turn (Turned count) after numbered rest gives =
      turn_case cap here.board.progress after.board.progress here.tickets after.tickets count rest gives.0 (ap (λ (b : Behind). b.progress) gives.1) gives.2
  call_rests cap here (Ack at) (Acked told) after numbered rest gives =
      ack_case here.board after.board.progress here.tickets after.tickets at told rest (ap (λ (b : Between D disk). b.board.progress) gives.0) (ap (λ (b : Between D disk). b.tickets) gives.0) gives.1
  call_rests cap here (Milestone document revision) Put after numbered rest gives =
      put_case here.board.progress after.board.progress here.tickets after.tickets document revision rest (ap (λ (b : Behind). b.progress) gives.0) gives.1
  call_rests cap here (Milestone document revision) (Refused refusal) after numbered rest gives =
      still here.board.progress after.board.progress here.tickets after.tickets (Milestone document revision) (Refused refusal) rest (ap (λ (b : Behind). b.progress) gives.0) gives.1
      (λ t. refl) (λ t. tt) refl (λ n. refl)
  call_rests cap here Retire Retired after numbered rest gives =
      still here.board.progress after.board.progress here.tickets after.tickets Retire Retired rest (ap (λ (b : Behind). b.progress) gives.0) gives.1 (λ t. refl) (λ t. tt) refl (λ n. refl)
  call_rests cap here Retire (Refused refusal) after numbered rest gives =
      still here.board.progress after.board.progress here.tickets after.tickets Retire (Refused refusal) rest (ap (λ (b : Behind). b.progress) gives.0) gives.1 (λ t. refl) (λ t. tt) refl (λ n. refl)
  call_rests cap here call reply after numbered rest gives = absurd gives

  answered_length : (cap : ℕ) (begin : Between D disk) (calls : List Call) (answers : List (Answer D L)) (here : Between D disk) → Answered cap begin calls answers here → length calls ≡ length answers
  answered_length cap begin _ _ _ Begins = refl
  answered_length cap begin _ _ _ (Follows calls answers here call reply after before gives works opens) =
      let same = answered_length cap begin calls answers here before in
      omega (arith, same, length-append calls (call ∷ []), length-append answers (reply ∷ []))

  -- A run, call after call.
  record RunRests (begin here : Between D disk) (calls : List Call) (answers : List (Answer D L)) : Type 0 where
    pub found : AreFound here.tickets calls answers
    pub is : IsSchedule begin here calls answers

  run_rests : (cap : ℕ) (begin : Between D disk) (calls : List Call) (answers : List (Answer D L)) (here : Between D disk) → IsAllSettled begin.board.progress → begin.tickets ≡ []
      → AreNumbered calls → Answered cap begin calls answers here → RunRests begin here calls answers
  run_rests cap begin _ _ _ rest none numbered Begins = record {
    found = tt;
    is = record {
      start = refl;
      settled = rest;
      goes = λ earlier a s c. (
        c,
        same_rest begin.board.progress begin.board.progress earlier (earlier ++ begin.tickets) a (a ++ []) s (s ++ []) c refl
            (sym (append-nil earlier) ∙ ap (λ (l : List Ticket). earlier ++ l) (sym none)) (sym (append-nil a)) (sym (append-nil s)),
      );
    };
  }
  run_rests cap begin _ _ _ rest none numbered (Follows calls answers here call reply after before gives works opens) =
      let parts = numbered-parts calls call numbered in
      let so_far = run_rests cap begin calls answers here rest none parts.0 before in
      let one = call_rests cap here call reply after parts.1 so_far.is.settled gives in
      let same = answered_length cap begin calls answers here before in
      let later = all_later here.tickets after.tickets one.tickets_more.0 calls answers one.tickets_more.1 so_far.found in
      let acks : acked here.tickets calls answers ++ acked_by here.tickets call reply ≡ acked after.tickets (calls ++ call ∷ []) (answers ++ reply ∷ []) =
      sym (acked-push after.tickets calls answers call reply same ∙ (ap (λ (l : List Ticket). l ++ acked_by after.tickets call reply) later.1 ∙ ap (λ (l : List Ticket). acked here.tickets calls answers ++ l) one.acks)) in
      record {
        found = found-push after.tickets calls answers call reply later.0 one.found same;
        is = record {
          start = one.start ∙ so_far.is.start;
          settled = one.settled;
          goes = λ earlier a s c.
              let first = so_far.is.goes earlier a s c in
              let second = one.goes earlier (a ++ acked here.tickets calls answers) (s ++ commands_in calls) first.0 in (
                second.0,
                ap (run (at_rest begin.board.progress earlier a s c)) (schedule-push (length earlier) calls answers call reply same)
                    ∙ (run-append (at_rest begin.board.progress earlier a s c) (schedule (length earlier) calls answers) (events_of (length earlier) call reply)
                    ∙ (ap (λ (w : World). run w (events_of (length earlier) call reply)) first.1
                    ∙ (second.1
                    ∙ same_rest after.board.progress after.board.progress (earlier ++ after.tickets) (earlier ++ after.tickets)
                    ((a ++ acked here.tickets calls answers) ++ acked_by here.tickets call reply) (a ++ acked after.tickets (calls ++ call ∷ []) (answers ++ reply ∷ []))
                    ((s ++ commands_in calls) ++ command_of call) (s ++ commands_in (calls ++ call ∷ [])) second.0 refl refl
                    (append_assoc a (acked here.tickets calls answers) (acked_by here.tickets call reply) ∙ ap (λ (l : List Ticket). a ++ l) acks)
                    (append_assoc s (commands_in calls) (command_of call) ∙ ap (λ (l : List Command). s ++ l) (sym (commands-push calls call)))))),
              );
        };
      }

pub run_is_schedule : (D L : Type 0) (disk : Ghosts D) → RunIsSchedule D L disk
run_is_schedule D L disk cap begin here calls answers rest none numbered answered = (run_rests cap begin calls answers here rest none numbered answered).is

pub first_is_schedule : (D L : Type 0) (disk : Ghosts D) → FirstIsSchedule D L disk
first_is_schedule D L disk start cap begin here calls answers from none numbered answered =
    let rest : IsAllSettled begin.board.progress = subst IsAllSettled (sym from) (record { taken = refl; within = omega arith }) in
    let goes = (run_is_schedule D L disk cap begin here calls answers rest none numbered answered).goes [] [] [] [] in
    (goes.0, ap (λ (b : Progress Entry). run (at_rest b [] [] [] []) (schedule 0 calls answers)) (sym from) ∙ goes.1)
