-- A legal order as worlds have it: each of its commands has its place, and what a desk acknowledged of it a window has.
use Rattle.std.proofs.Common.{◌≡◌, ◌≤◌, ℕ, ◌+◌, Bool, true, false, cond, List, [], ◌∷◌, ◌++◌, length, map, take, Some, Ok, refl, sym, ap, ◌∙◌, subst, arith, le-leb}
use Rattle.std.specs.Prelude.{bytes_eq, nat_le, option_to_list}
use Rattle.std.proofs.lemmas.Bool.{and_from}
use Rattle.std.proofs.lemmas.List.{length-append, length-map, map-append, take_all, take-append-le, take-map}
use mathlib.Core.List.{IsPrefix}
use Rattle.revision.specs.Command.{Taken, Command}
use Rattle.revision.specs.Window.{revision_in}
use Rattle.revision.specs.Sources.{window_of}
use Rattle.revision.specs.State.{DocumentRecord, State, sources_of, find, last_of_all, fold, grown}
use Rattle.revision.specs.Acceptance.{Answer, Takes, Reply, TakenAt, AgainAt, Refused, answer}
use Rattle.world.specs.Progress.{submitted_by, ticket_by}
use Rattle.world.specs.Event.{Submit}
use Rattle.world.specs.World.{Entry, entry_of, takens, World, begun}
use Rattle.world.specs.Step.{is_numbered, with_command}
use Rattle.world.specs.Shown.{Shown, shown, all_shown}
use Rattle.world.specs.Law.{window_found, window_held}
use Rattle.world.specs.steps.Showing.{grown_shown, fold_shown}
use Rattle.world.specs.steps.Placing.{window_in, Placed, AllPlaced, after}
use Rattle.world.specs.steps.Holding.{IsConsistent}
use Rattle.world.proofs.CallerLemmas.{shown-fold, fold_shown-append, begun-holds, run-holds}
use Rattle.published.specs.Order.{HasNumber, WasTaken, IsLegal}
use Rattle.published.proofs.CallerLemmas.{prefix_trans}
use Rattle.hub.specs.Placed.{PlacedBy}
use Rattle.session.specs.declared.reply.Reply.{Reply as Told}
use Rattle.session.specs.declared.reply.Reply.TheVariants.{Taken as TookAt, Again as WasAt}
use Rattle.session.specs.Alone.{answered}
use Rattle.session.specs.Reply.{rev_of}
use Rattle.hub_desk.specs.AtHub.{Desk, Acknowledges}
use Rattle.hub_desk.proofs.CallerLemmas.{again_held}
use Rattle.recovery.specs.Found.{commands_of}

-- a source's window as a state shows it
shown_window : (name source : List ℕ) (k : ℕ) (documents : List DocumentRecord) → window_found source (find name k documents) ≡ window_in name source (map shown documents)
shown_window name source k [] = refl
shown_window name source k (first ∷ others) = by_test (shown_window name source (k + 1) others) (bytes_eq first.name name)
  where
    by_test : window_found source (find name (k + 1) others) ≡ window_in name source (map shown others) → (b : Bool)
        → window_found source (cond b (Some (k, first)) (find name (k + 1) others)) ≡ cond b (window_of source (sources_of first)) (window_in name source (map shown others))
    by_test further true = refl
    by_test further false = further

pub held_shown : (state : State) (command : Command) → window_held state command ≡ window_in command.name command.source (all_shown state)
held_shown state command = shown_window command.name command.source 0 state.documents

numbered : (command : Command) → HasNumber command → is_numbered command ≡ true
numbered command has =
    let low : 1 ≤ command.number = has.0 in
    let high : command.number ≤ last_of_all = omega (arith, has.1) in
    and_from (nat_le 1 command.number) (nat_le command.number last_of_all) (le-leb 1 command.number low) (le-leb command.number last_of_all high)

-- a world that began with a state, after one command that was answered so
abbrev after_one : State → Command → Answer → World
after_one state command given = record (begun state) {
  board = submitted_by (entry_of command) (begun state).board given;
  tickets = [] ++ option_to_list (ticket_by (begun state).board command given);
  sent = [] ++ command ∷ [];
}

one_holds : (state : State) (command : Command) (taken : Taken) → HasNumber command → answer state command ≡ Takes taken → IsConsistent (after_one state command (Takes taken))
one_holds state command taken has is =
    subst IsConsistent (ap (λ (b : Bool). cond b (with_command (begun state) command) (begun state)) (numbered command has) ∙ ap (after_one state command) is)
    (run-holds (begun state) (Submit command ∷ []) (begun-holds state))

-- what was taken has its place, and from then on its number has its revision
pub placed_one : (state : State) (command : Command) (taken : Taken) → HasNumber command → answer state command ≡ Takes taken → Placed (all_shown state) (entry_of command taken)
placed_one state command taken has is = (one_holds state command taken has is).placed.0

made_one : (state : State) (command : Command) (taken : Taken) → HasNumber command → answer state command ≡ Takes taken
    → revision_in command.number (window_in command.name command.source (grown_shown taken (all_shown state))) ≡ Some taken.revision
made_one state command taken has is = ((one_holds state command taken has is).tickets 0 (record { command = command; reply = TakenAt taken.revision; length = 0 + 1 }) (omega arith)).made

pub legal_placed : (state : State) (order : List Entry) → IsLegal state order → AllPlaced (all_shown state) order
legal_placed state [] legal = tt
legal_placed state (first ∷ others) legal = (
  placed_one state first.command first.taken legal.0.0 legal.0.1,
  subst (λ (d : List Shown). AllPlaced d others) (shown-fold state (first.taken ∷ [])) (legal_placed (grown state first.taken) others legal.1),
)

-- the last command of a legal order was taken
legal_last : (state : State) (before : List Entry) (entry : Entry) → IsLegal state (before ++ entry ∷ []) → WasTaken (fold state (takens before)) entry
legal_last state [] entry legal = legal.0
legal_last state (first ∷ others) entry legal = legal_last (grown state first.taken) others entry legal.1

-- what begins a list is the first of it
first_of : {A : Type 0} (xs ys : List A) → IsPrefix xs ys → take (length xs) ys ≡ xs
first_of xs ys (more, is) =
    ap (take (length xs)) (sym is) ∙ (take-append-le (length xs) xs more (omega arith) ∙ take_all (length xs) xs (omega arith))

-- the same of commands
pub first_takens : (commands : List Taken) (order : List Entry) → IsPrefix commands (takens order) → takens (take (length commands) order) ≡ commands
first_takens commands order begins = sym (take-map (λ (e : Entry). e.taken) (length commands) order) ∙ first_of commands (takens order) begins

pub first_long : (commands : List Taken) (order : List Entry) → IsPrefix commands (takens order) → length commands ≤ length order
first_long commands order (more, is) =
    omega (arith, ap length is, length-append commands more, length-map order (λ (e : Entry). e.taken))

-- After so many commands of an order a command's number has this revision in its source's window.
pub record IsMadeIn (documents : List Shown) (order : List Entry) (command : Command) (revision : ℕ) : Type 0 where
  pub count : ℕ
  pub within : count ≤ length order
  pub made : revision_in command.number (window_in command.name command.source (after documents (take count order))) ≡ Some revision

made_first : (state : State) (commands : List Taken) (order : List Entry) (command : Command) (revision : ℕ) → IsPrefix commands (takens order)
    → revision_in command.number (window_in command.name command.source (fold_shown (all_shown state) commands)) ≡ Some revision → IsMadeIn (all_shown state) order command revision
made_first state commands order command revision begins is = record {
  count = length commands;
  within = first_long commands order begins;
  made = ap (λ (l : List Taken). revision_in command.number (window_in command.name command.source (fold_shown (all_shown state) l))) (first_takens commands order begins) ∙ is;
}

-- a command with its place in the order of its ticket, which begins this one
made_placed : (state : State) (before order : List Entry) (command : Command) (due : Reply) (reply : Told) → IsLegal state before → PlacedBy state before command due
    → answered due ≡ Ok reply → IsPrefix (takens before) (takens order) → IsMadeIn (all_shown state) order command (rev_of reply)
made_placed state before order command (TakenAt revision) reply legal (earlier, taken, whole, takes, at) answers begins =
    let told : TookAt revision ≡ reply = cc (answers) in
    let has = (legal_last state earlier (entry_of command taken) (subst (IsLegal state) whole legal)).0 in
    let is : takens before ≡ takens earlier ++ taken ∷ [] = ap takens whole ∙ map-append (λ (e : Entry). e.taken) earlier (entry_of command taken ∷ []) in
    let there : fold_shown (all_shown state) (takens earlier ++ taken ∷ []) ≡ grown_shown taken (all_shown (fold state (takens earlier))) =
    fold_shown-append (all_shown state) (takens earlier) (taken ∷ []) ∙ ap (grown_shown taken) (sym (shown-fold state (takens earlier))) in
    made_first state (takens earlier ++ taken ∷ []) order command (rev_of reply) (subst (λ (l : List Taken). IsPrefix l (takens order)) is begins)
    (ap (λ (d : List Shown). revision_in command.number (window_in command.name command.source d)) there
    ∙ (made_one (fold state (takens earlier)) command taken has takes ∙ ap (λ r. Some r) (at ∙ ap (λ (r : Told). rev_of r) told)))
made_placed state before order command (AgainAt revision) reply legal repeats answers begins =
    let told : WasAt revision ≡ reply = cc (answers) in
    made_first state (takens before) order command (rev_of reply) begins
    (ap (λ (d : List Shown). revision_in command.number (window_in command.name command.source d)) (sym (shown-fold state (takens before)))
    ∙ (ap (revision_in command.number) (sym (held_shown (fold state (takens before)) command))
    ∙ (again_held (fold state (takens before)) command revision repeats ∙ ap (λ r. Some r) (ap (λ (r : Told). rev_of r) told))))
made_placed state before order command (Refused refusal) reply legal placed answers begins = absurd placed

-- what a desk acknowledged, where the order begins with all that it had been told of then
pub acknowledged_made : (state : State) (old new : Desk) (command : Command) (reply : Told) (order : List Entry) → Acknowledges state old command reply new
    → IsPrefix (commands_of new.told) (takens order) → IsMadeIn (all_shown state) order command (rev_of reply)
acknowledged_made state old new command reply order does begins =
    let ticket = does.ticket in
    subst (λ (c : Command). IsMadeIn (all_shown state) order c (rev_of reply)) does.submits.of_command
    (made_placed state does.stands.order order ticket.command ticket.reply reply does.stands.legal does.stands.placed.reply does.answer
    (prefix_trans (takens does.stands.order) (commands_of new.told) (takens order) does.stands.first begins))
