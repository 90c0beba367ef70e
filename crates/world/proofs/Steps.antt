-- What the program that steps a world keeps, event by event.
use Rattle.std.proofs.Common.{◌≡◌, ℕ, zero, suc, ◌≤◌, ◌<◌, ◌^◌, true, false, cond, List, [], ◌∷◌, ◌++◌, length, take, drop, Some, refl, sym, ap, ◌∙◌, subst, arith, inl, inr}
use Rattle.std.specs.Prelude.{◌==◌, ◌&&◌, nat_lt, nat_le, if◌then◌else◌, option_to_list}
use Rattle.std.proofs.lemmas.Bool.{and_parts, and_from, or_cases, eqb-true, lt-ltb, le-leb, eq-eqb}
use Rattle.std.proofs.lemmas.List.{append-nil, take-map, take-append-drop, take-append-le, take-take, length-append, length-take-le, length-map, map-append}
use Rattle.revision.specs.Command.{Taken, Command}
use Rattle.revision.specs.State.{Limits, State, grows, grown, all_grow, fold, last_of_all}
use Rattle.revision.specs.Acceptance.{Answer, Takes, Repeats, Refuses, answer}
use Rattle.revision.specs.Agree.{Agree}
use Rattle.revision.proofs.CallerLemmas.{taken_grows, agreeing_grow, fold-append}
use Rattle.world.specs.Progress.{Progress, Ticket, submitted, submitted_by, ticket_of, reopened}
use Rattle.world.specs.Event.{Submit, Publish}
use Rattle.world.specs.World.{Entry, entry_of, takens, World}
use Rattle.world.specs.Step.{is_numbered, with_command, may_leave, may_pick, whole, opened, can_open, running_step}
use Rattle.world.specs.Stepping.{empty_store, taken_of, AreStepped, recovered, floors_left, are_reached}
use Rattle.world.proofs.Milestones.{recovered_picks, recovered_state, recovered_agrees}

-- what is left of an order continues the start
all_grow-take : (n : ℕ) (state : State) (commands : List Taken) → all_grow state commands ≡ true → all_grow state (take n commands) ≡ true
all_grow-take zero state commands grow = refl
all_grow-take (suc n) state [] grow = refl
all_grow-take (suc n) state (first ∷ others) grow =
    let parts = and_parts (grows state first) (all_grow (grown state first) others) grow in
    and_from (grows state first) (all_grow (grown state first) (take n others)) parts.0 (all_grow-take n (grown state first) others parts.1)

pub left_grow : (limits : Limits) (n : ℕ) (entries : List Entry) → all_grow (empty_store limits) (takens entries) ≡ true
    → all_grow (empty_store limits) (takens (take n entries)) ≡ true
left_grow limits n entries grow =
    ap (all_grow (empty_store limits)) (sym (take-map (λ (e : Entry). e.taken) n entries)) ∙ all_grow-take n (empty_store limits) (takens entries) grow

all_grow-append : (state : State) (first others : List Taken) → all_grow state first ≡ true → all_grow (fold state first) others ≡ true
    → all_grow state (first ++ others) ≡ true
all_grow-append state [] others grow rest = rest
all_grow-append state (taken ∷ more) others grow rest =
    let parts = and_parts (grows state taken) (all_grow (grown state taken) more) grow in
    and_from (grows state taken) (all_grow (grown state taken) (more ++ others)) parts.0 (all_grow-append (grown state taken) more others parts.1 rest)

-- one command more
module _ (limits : Limits) (board : Progress Entry) (order : List Entry) (shown without with_batch : ℕ) (stepped : AreStepped limits board order shown without with_batch)
    (command : Command) (some : 1 ≤ command.number) (below : command.number < 2 ^ 53) where
  stays : AreStepped limits board (order ++ []) shown without with_batch
  stays = subst (λ o. AreStepped limits board o shown without with_batch) (sym (append-nil order)) stepped

  answered : (due : Answer) → answer board.state command ≡ due
      → AreStepped limits (submitted_by (entry_of command) board due) (order ++ taken_of command due) shown without with_batch
  answered (Refuses refusal) is = stays
  answered (Repeats revision) is = stays
  answered (Takes taken) is = record {
    start = stepped.start;
    shown_taken = stepped.shown_taken;
    without_taken = stepped.without_taken;
    with_taken = stepped.with_taken;
    taken_long = omega (arith, stepped.taken_long, length-append board.order (entry_of command taken ∷ []));
    grow = ap (all_grow (empty_store limits)) more ∙ all_grow-append (empty_store limits) (takens board.order) (taken ∷ []) stepped.grow (sym next.0 ∙ here);
    agree = subst (Agree (grown board.state taken)) (sym (ap (fold (empty_store limits)) more ∙ fold-append (empty_store limits) (takens board.order) (taken ∷ []))) next.1;
    kept = ap (λ o. o ++ entry_of command taken ∷ []) stepped.kept;
  }
    where
      more : takens (board.order ++ entry_of command taken ∷ []) ≡ takens board.order ++ taken ∷ []
      more = map-append (λ (e : Entry). e.taken) board.order (entry_of command taken ∷ [])

      here : all_grow board.state (taken ∷ []) ≡ true
      here = and_from (grows board.state taken) true (taken_grows board.state command taken some below is) refl

      next : (all_grow board.state (taken ∷ []) ≡ all_grow (fold (empty_store limits) (takens board.order)) (taken ∷ []))
          × Agree (fold board.state (taken ∷ [])) (fold (fold (empty_store limits) (takens board.order)) (taken ∷ []))
      next = agreeing_grow board.state (fold (empty_store limits) (takens board.order)) (taken ∷ []) stepped.agree

  pub stepped-submitted : AreStepped limits (submitted (entry_of command) board command) (order ++ taken_of command (answer board.state command)) shown without with_batch
  stepped-submitted = answered (answer board.state command) refl

-- an opening
pub stepped-opened : (limits : Limits) (board : Progress Entry) (order : List Entry) (shown without with_batch : ℕ) (state : State) (kept : ℕ) (milestones : List ℕ)
    → AreStepped limits board order shown without with_batch → kept ≤ board.taken → state ≡ recovered (empty_store limits) (takens (take kept board.order)) milestones
    → AreStepped limits (reopened board state kept) (take kept order) kept kept kept
stepped-opened limits board order shown without with_batch state kept milestones stepped within is = record {
  start = stepped.start;
  shown_taken = omega arith;
  without_taken = omega arith;
  with_taken = omega arith;
  taken_long = omega (arith, within, stepped.taken_long, length-take-le kept board.order (omega (arith, within, stepped.taken_long)));
  grow = left_grow limits kept board.order stepped.grow;
  agree = subst (λ s. Agree s (fold (empty_store limits) (takens (take kept board.order)))) (sym is)
      (recovered_agrees (empty_store limits) (takens (take kept board.order)) milestones);
  kept = ap (take kept) stepped.kept;
}

module _ (world : World) (command : Command) (some : 1 ≤ command.number) (below : command.number < 2 ^ 53) where
  numbered : is_numbered command ≡ true
  numbered = and_from (nat_le 1 command.number) (nat_le command.number last_of_all) (le-leb 1 command.number some) (le-leb command.number last_of_all (omega (arith, below)))

  comes : running_step world (Submit command) ≡ with_command world command
  comes = ap (λ b. cond b (with_command world command) world) numbered

  -- what is shown stays what it is
  shown-stays : (n : ℕ) → n ≤ length world.board.order → (due : Answer)
      → takens (take n (submitted_by (entry_of command) world.board due).order) ≡ takens (take n world.board.order)
  shown-stays n within (Takes taken) = ap takens (take-append-le n world.board.order (entry_of command taken ∷ []) within)
  shown-stays n within (Repeats revision) = refl
  shown-stays n within (Refuses refusal) = refl

  -- a command that gets a ticket
  pub submit-steps : (n : ℕ) (ticket : Ticket) → n ≤ length world.board.order → world.published ≡ takens (take n world.board.order)
      → Some ticket ≡ ticket_of world.board command
      → record world {
        board = submitted (entry_of command) world.board command;
        published = takens (take n (submitted (entry_of command) world.board command).order);
        tickets = world.tickets ++ ticket ∷ [];
        sent = world.sent ++ command ∷ [];
      } ≡ running_step world (Submit command)
  submit-steps n ticket within shown is =
      (λ i. record world {
        board = submitted (entry_of command) world.board command;
        published = (shown-stays n within (answer world.board.state command) ∙ sym shown) i;
        tickets = world.tickets ++ option_to_list (is i);
        sent = world.sent ++ command ∷ [];
      }) ∙ sym comes

-- a batch that is done is shown
pub publish-steps : (world : World) (n end : ℕ) → end ≡ world.board.taken → world.published ≡ takens (take n world.board.order) → n < world.board.taken
    → world.board.taken ≤ length world.board.order → world.without ≡ world.board.taken
    → record world { published = takens (take end world.board.order) } ≡ running_step world Publish
publish-steps world n end is shown below long done =
    ap (λ k. record world { published = takens (take k world.board.order) }) is ∙ (λ i. record world { published = sym all i })
    ∙ sym (ap (λ b. cond b (record world { published = world.published ++ takens (drop (length world.published) (take world.board.taken world.board.order)) }) world) can)
  where
    count : length world.published ≡ n
    count = ap length shown ∙ (length-map (take n world.board.order) (λ (e : Entry). e.taken) ∙ length-take-le n world.board.order (omega (arith, below, long)))

    can : (nat_lt (length world.published) world.board.taken && (world.without == world.board.taken)) ≡ true
    can = and_from (nat_lt (length world.published) world.board.taken) (world.without == world.board.taken)
        (lt-ltb (length world.published) world.board.taken (omega (arith, below, count))) (eq-eqb world.without world.board.taken done)

    all : world.published ++ takens (drop (length world.published) (take world.board.taken world.board.order)) ≡ takens (take world.board.taken world.board.order)
    all =
        ap (λ l. l ++ takens (drop (length world.published) (take world.board.taken world.board.order)))
        (shown ∙ (ap (λ k. takens (take k world.board.order)) (sym count)
        ∙ ap takens (sym (take-take (length world.published) world.board.taken world.board.order (omega (arith, below, count))))))
        ∙ (sym (map-append (λ (e : Entry). e.taken) (take (length world.published) (take world.board.taken world.board.order)) (drop (length world.published) (take world.board.taken world.board.order)))
        ∙ ap takens (take-append-drop (length world.published) (take world.board.taken world.board.order)))

-- an opening, by milestones that were composed, or by others
module _ (world : World) (limits : Limits) (kept : ℕ) (milestones : List ℕ) (state : State) (start : world.board.start ≡ empty_store limits) (few : limits.keep ≤ last_of_all)
    (may : may_leave world kept ≡ true) (is : state ≡ recovered (empty_store limits) (takens (take kept world.board.order)) milestones) where
  none : world.board.start.documents ≡ []
  none = ap (λ (s : State). s.documents) start

  some : world.board.start.limits.keep ≤ last_of_all
  some = subst (λ (s : State). s.limits.keep ≤ last_of_all) (sym start) few

  made : state ≡ recovered world.board.start (takens (take kept world.board.order)) milestones
  made = is ∙ ap (λ s. recovered s (takens (take kept world.board.order)) milestones) (sym start)

  abbrev pub folded : State
  folded = fold (empty_store limits) (takens (take kept world.board.order))

  can : can_open world kept (floors_left world kept milestones) ≡ are_reached world.composed 0 folded.documents state.documents
  can =
      ap (λ b. b && may_pick world.board.start.limits.keep world.composed 0 (whole world.board.start (takens (take kept world.board.order))).documents (floors_left world kept milestones)) may
      ∙ (recovered_picks world.board.start none some (takens (take kept world.board.order)) milestones world.composed
      ∙ (ap (λ (s : State). are_reached world.composed 0 (fold world.board.start (takens (take kept world.board.order))).documents s.documents) (sym made)
      ∙ ap (λ (s : State). are_reached world.composed 0 (fold s (takens (take kept world.board.order))).documents state.documents) start))

  pub open-steps : are_reached world.composed 0 (fold (empty_store limits) (takens (take kept world.board.order))).documents state.documents ≡ true
      → record world {
        board = reopened world.board state kept;
        published = takens (take kept (take kept world.board.order));
        without = kept;
        with_batch = kept;
        tickets = [];
        failed = false;
        crashed = false;
      } ≡ (if can_open world kept (floors_left world kept milestones) then opened world kept (floors_left world kept milestones) else world)
  open-steps reached =
      (λ i. record world {
        board = record world.board {
          order = take kept world.board.order;
          state = (made ∙ sym (recovered_state world.board.start none some (takens (take kept world.board.order)) milestones)) i;
          taken = kept;
          settled = kept;
        };
        published = ap takens (take-take kept kept world.board.order (omega arith)) i;
        without = kept;
        with_batch = kept;
        tickets = [];
        failed = false;
        crashed = false;
      }) ∙ sym (ap (λ b. cond b (opened world kept (floors_left world kept milestones)) world) (can ∙ reached))

  pub closed-steps : are_reached world.composed 0 (fold (empty_store limits) (takens (take kept world.board.order))).documents state.documents ≡ false
      → world ≡ (if can_open world kept (floors_left world kept milestones) then opened world kept (floors_left world kept milestones) else world)
  closed-steps out = sym (ap (λ b. cond b (opened world kept (floors_left world kept milestones)) world) (can ∙ out))

-- what may be left is within what is taken off
pub left-taken : (limits : Limits) (world : World) (order : List Entry) (shown kept : ℕ) → AreStepped limits world.board order shown world.without world.with_batch
    → may_leave world kept ≡ true → kept ≤ world.board.taken
left-taken limits world order shown kept stepped may = elim (or_cases (kept == world.without) (kept == world.with_batch) may) [
  | inl e ↦ let is : kept ≡ world.without = eqb-true kept world.without e in omega (arith, is, stepped.without_taken)
  | inr e ↦ let is : kept ≡ world.with_batch = eqb-true kept world.with_batch e in omega (arith, is, stepped.with_taken)
]
