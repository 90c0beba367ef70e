-- What holds of every schedule, by what each event keeps.
use Rattle.std.proofs.Common.{◌≡◌, ℕ, ◌+◌, ◌≤◌, ◌<◌, true, List, [], ◌∷◌, ◌++◌, length, take, get_or, Option, Some, None, refl, sym, ap, ◌∙◌, subst, arith, inl, inr}
use Rattle.std.specs.Prelude.{◌⊎◌, bytes_eq, Any, min}
use Rattle.std.proofs.lemmas.Bool.{and_parts}
use Rattle.std.proofs.lemmas.List.{take-take, length-take, take_more, get_or-take}
use Rattle.std.proofs.lemmas.List.Elements.{All-weaker}
use Rattle.revision.specs.Window.{longest, Window, revision_in}
use Rattle.revision.specs.Command.{Command}
use Rattle.revision.specs.State.{DocumentRecord, State, find}
use Rattle.world.specs.Progress.{Ticket}
use Rattle.world.specs.World.{Entry, takens, World, begun, is_of, last_sent}
use Rattle.world.specs.Step.{run}
use Rattle.world.specs.Shown.{Shown, all_shown}
use Rattle.world.specs.Law.{OverAll, revision_named, window_found, window_held, Made, HasTaken, AcksStay, TakenOnce, OneRevision, NothingTakenBack, TakenIsAgain, AcksAreShown, ShownStays, StateIsFold}
use Rattle.world.proofs.Showing.{shown-fold}
use Rattle.world.proofs.Numbers.{window_in, Placed, same_bytes}
use Rattle.world.proofs.Histories.{AllPlaced, after, placed-take, placed-at, Makes, made_by, numbered_by, all_above, once, sender_same}
use Rattle.world.proofs.Answered.{found-window, new-window, none-new, made_repeats}
use Rattle.world.proofs.Standing.{one_revision, made-last, still_made-from}
use Rattle.world.proofs.Holding.{IsConsistent, StandsSettled, WasSent, begun-holds, left-between, run-holds}

pub acks-stay : (world : World) → IsConsistent world → AcksStay world
acks-stay world holds kept may =
    All-weaker (StandsSettled (all_shown world.board.start) world.board.order world.board.settled) (λ (ack : Ticket). ack.length ≤ kept)
    (λ t stands. omega (arith, stands.1, holds.counts.settled_shown, (left-between world holds kept may).0)) world.acks holds.acks

pub acks-are_shown : (world : World) → IsConsistent world → AcksAreShown world
acks-are_shown world holds =
    All-weaker (StandsSettled (all_shown world.board.start) world.board.order world.board.settled) (λ (ack : Ticket). ack.length ≤ length world.published)
    (λ t stands. omega (arith, stands.1, holds.counts.settled_shown)) world.acks holds.acks

pub acks-one_revision : (world : World) → IsConsistent world → OneRevision world
acks-one_revision world holds i j d lt long =
    one_revision (all_shown world.board.start) world.board.order holds.placed (get_or world.acks i d) (get_or world.acks j d)
    (holds.acks i d (omega (arith, lt, long))).0 (holds.acks j d long).0

-- a source's window as a state shows it
held-window : (state : State) (command : Command) → window_held state command ≡ window_in command.name command.source (all_shown state)
held-window state command = by_found (find command.name 0 state.documents) refl
  where
    by_found : (there : Option (ℕ × DocumentRecord)) → find command.name 0 state.documents ≡ there → window_found command.source there ≡ window_in command.name command.source (all_shown state)
    by_found None is = sym (new-window command.name command.source (all_shown state) (none-new command.name 0 state.documents is))
    by_found (Some found) is = sym (found-window command.name command.source 0 found.0 state.documents found.1 is)

pub taken-once : (world : World) → IsConsistent world → TakenOnce world
taken-once world holds = record {
  apart = once (all_shown world.board.start) world.board.order holds.placed;
  anew = λ i d lt. let e = get_or world.board.order i d in
      let same : (window_held world.board.start e.command).number ≡ (window_in e.command.name e.command.source (all_shown world.board.start)).number =
      ap (λ (w : Window). w.number) (held-window world.board.start e.command) in
      let above : (window_in e.command.name e.command.source (all_shown world.board.start)).number < e.command.number =
      all_above e.command.name e.command.source (all_shown world.board.start) world.board.order holds.placed i d lt (sender_same e.command e.command refl refl) in
      omega (arith, same, above);
}

any-weaker : {A : Type 0} (P Q : A → Type 0) → ((x : A) → P x → Q x) → (list : List A) → Any P list → Any Q list
any-weaker P Q f list there = (there.0, there.1, there.2, there.3, f there.1 there.4)

any-take : {A : Type 0} (P : A → Type 0) (n : ℕ) (list : List A) → Any P (take n list) → Any P list
any-take P n list there =
    let both : there.0 < min n (length list) = subst (λ l. there.0 < l) (length-take n list) there.2 in
    (there.0, there.1, omega (arith, both), sym (get_or-take n list there.0 there.1 (omega (arith, both))) ∙ there.3, there.4)

-- an entry that made the revision of a command's number is the command
makes-made : (command : Command) (revision : ℕ) (e : Entry) → Makes command.name command.source command.number revision e → Made command revision e
makes-made command revision e makes =
    let parts = and_parts (bytes_eq e.command.name command.name) (bytes_eq e.command.source command.source) makes.0 in (
      (
        sym (same_bytes e.command.name command.name parts.0),
        sym (same_bytes e.command.source command.source parts.1),
        sym makes.2 ∙ makes.1,
      ),
      makes.3,
    )

pub nothing-taken_back : (world : World) → IsConsistent world → NothingTakenBack world
nothing-taken_back world holds kept may =
    All-weaker (StandsSettled (all_shown world.board.start) world.board.order world.board.settled)
    (λ (ack : Ticket). HasTaken world.board.start (take kept world.board.order) ack.command (revision_named ack.reply)) each world.acks holds.acks
  where
    each : (ack : Ticket) → StandsSettled (all_shown world.board.start) world.board.order world.board.settled ack
        → HasTaken world.board.start (take kept world.board.order) ack.command (revision_named ack.reply)
    each ack stands = elim (made_by ack.command.name ack.command.source (all_shown world.board.start) (take ack.length world.board.order)
        (placed-take ack.length (all_shown world.board.start) world.board.order holds.placed) ack.command.number (revision_named ack.reply) stands.0.made) [
          | inl there ↦ inl (any-take (Made ack.command (revision_named ack.reply)) ack.length (take kept world.board.order)
              (subst (Any (Made ack.command (revision_named ack.reply))) (sym (take-take ack.length kept world.board.order within))
              (any-weaker (Makes ack.command.name ack.command.source ack.command.number (revision_named ack.reply)) (Made ack.command (revision_named ack.reply))
              (makes-made ack.command (revision_named ack.reply)) (take ack.length world.board.order) there)))
          | inr same ↦ inr (ap (revision_in ack.command.number) (held-window world.board.start ack.command) ∙ same)
        ]
      where
        within : ack.length ≤ kept
        within = omega (arith, stands.1, holds.counts.settled_shown, (left-between world holds kept may).0)

-- a command that the order has made its revision at its place
made-at : (documents : List Shown) (entries : List Entry) → AllPlaced documents entries → (command : Command) (revision n : ℕ) (e : Entry) → n < length entries
    → get_or entries n e ≡ e → Made command revision e
    → revision_in command.number (window_in command.name command.source (after documents (take (n + 1) entries))) ≡ Some revision
made-at documents entries placed command revision n e lt is made =
    ap (λ l. revision_in command.number (window_in command.name command.source (after documents l))) (take_more entries n e lt ∙ ap (λ x. take n entries ++ x ∷ []) is)
    ∙ made-last documents (take n entries) e command revision (subst (Placed (after documents (take n entries))) is (placed-at n e documents entries lt placed)) made

pub taken-is_again : (world : World) → IsConsistent world → TakenIsAgain world
taken-is_again world holds command revision some kept greatest =
    made_repeats world.board.state command revision (ap (λ d. revision_in command.number (window_in command.name command.source d)) holds.state ∙ there kept)
  where
    -- no entry of the source has a number so great that the command's is no longer in the window
    low : (e : Entry) → WasSent world.sent e → is_of command.name command.source e.command ≡ true → e.command.number < command.number + longest
    low e was is =
        let parts = and_parts (bytes_eq e.command.name command.name) (bytes_eq e.command.source command.source) is in
        let same : last_sent e.command.name e.command.source world.sent ≡ last_sent command.name command.source world.sent =
        ap (λ n. last_sent n e.command.source world.sent) (same_bytes e.command.name command.name parts.0) ∙ ap (λ s. last_sent command.name s world.sent) (same_bytes e.command.source command.source parts.1) in
        omega (arith, was, same, greatest)

    -- the last number is that of an entry, or none of the source's commands was taken
    few : ((window_in command.name command.source (after (all_shown world.board.start) world.board.order)).number < command.number + longest)
        ⊎ (window_in command.name command.source (after (all_shown world.board.start) world.board.order) ≡ window_in command.name command.source (all_shown world.board.start))
    few = elim (numbered_by command.name command.source (all_shown world.board.start) world.board.order holds.placed) [
      | inl by ↦ inl (subst (λ n. n < command.number + longest) by.4.1 (low by.1 (subst (WasSent world.sent) by.3 (holds.sent by.0 by.1 by.2)) by.4.0))
      | inr same ↦ inr same
    ]

    there : HasTaken world.board.start world.board.order command revision
        → revision_in command.number (window_in command.name command.source (after (all_shown world.board.start) world.board.order)) ≡ Some revision
    there (inl at) =
        let here = made-at (all_shown world.board.start) world.board.order holds.placed command revision at.0 at.1 at.2 at.3 at.4 in
        still_made-from command.name command.source (all_shown world.board.start) world.board.order holds.placed (at.0 + 1) command.number revision here (elim few [
          | inl below ↦ below
          | inr same ↦
              let own : is_of command.name command.source at.1.command ≡ true = sender_same command at.1.command at.4.0.0 at.4.0.1 in
              let above : (window_in command.name command.source (all_shown world.board.start)).number < at.1.command.number =
              subst (λ (x : Entry). is_of command.name command.source x.command ≡ true → (window_in command.name command.source (all_shown world.board.start)).number < x.command.number) at.3
              (all_above command.name command.source (all_shown world.board.start) world.board.order holds.placed at.0 at.1 at.2) own in
              let last : (window_in command.name command.source (after (all_shown world.board.start) world.board.order)).number ≡ (window_in command.name command.source (all_shown world.board.start)).number = ap (λ (w : Window). w.number) same in
              omega (arith, above, last, at.4.0.2)
        ])
    there (inr held) =
        let at_start : revision_in command.number (window_in command.name command.source (all_shown world.board.start)) ≡ Some revision =
        ap (revision_in command.number) (sym (held-window world.board.start command)) ∙ held in
        elim few [
          | inl below ↦ still_made-from command.name command.source (all_shown world.board.start) world.board.order holds.placed 0 command.number revision at_start below
          | inr same ↦ ap (revision_in command.number) same ∙ at_start
        ]

-- what is shown stays
pub shown-stays : (world : World) → IsConsistent world → ShownStays world
shown-stays world holds = record { beginning = holds.shown; stays = λ kept may. (left-between world holds kept may).0 }

pub state-is_fold : (world : World) → IsConsistent world → StateIsFold world
state-is_fold world holds = record { limits = holds.limits; documents = holds.state ∙ sym (shown-fold world.board.start (takens world.board.order)) }

-- what holds of each world in which the invariant does holds over all lists of events
pub over_all : (P : World → Type 0) → ((world : World) → IsConsistent world → P world) → OverAll P
over_all P each start events = each (run (begun start) events) (run-holds (begun start) events (begun-holds start))
