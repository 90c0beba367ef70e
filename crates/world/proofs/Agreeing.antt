-- The state agrees with what the order makes of the start: both are cut from one state that lets go of nothing.
use Rattle.std.proofs.Common.{◌≡◌, ℕ, zero, suc, ◌+◌, ◌-◌, true, List, [], ◌∷◌, ◌++◌, length, take, Option, Some, None, refl, sym, ap, ◌∙◌, subst}
use Rattle.std.specs.Prelude.{◌==◌, ◌&&◌, nat_lt, nat_le, max, slice_get}
use Rattle.std.proofs.lemmas.Bool.{and_parts, cond_both, leb-true}
use Rattle.std.proofs.lemmas.List.{map-append}
use Rattle.revision.specs.Command.{Taken, Command}
use Rattle.revision.specs.Past.{Past, newest, empty_past, from_floor}
use Rattle.revision.specs.State.{newest_revision, change_of, DocumentRecord, revision_of, State, record_by_name, set_document, grown, fold}
use Rattle.revision.specs.Acceptance.{Answer, Takes, Repeats, Refuses, answer}
use Rattle.revision.specs.Agree.{DocumentsAgree, PlacesAgree}
use Rattle.world.specs.Progress.{Ticket, can_take, can_settle, can_ack}
use Rattle.world.specs.Event.{Done, Failed, Stopped, Event, Submit, Take, Device, Publish, Settle, Ack, Compose, Crash, Open, Resend}
use Rattle.world.specs.World.{Entry, entry_of, takens, World, begun, last_sent, last_composed}
use Rattle.world.specs.Step.{keeping_all, whole, with_floors, may_begin_at, may_pick, is_numbered, is_among_last, with_command, is_written, written, acknowledged, may_leave, stopped, opened, can_open, running_step, crashed_step, step, run}
use Rattle.world.specs.Law.{OverAll, StateAgrees}
use Rattle.world.proofs.Pasts.{newest-from_floor, content-from_floor, sources-from_floor}
use Rattle.world.proofs.Cutting.{IsCut, cut-itself, cut-floor, longer_by, cut-step, cuts-agree}
use Rattle.world.proofs.Holding.{IsConsistent, with_answer, begun-holds, run-holds}
pub use Rattle.revision.proofs.CallerLemmas.{limits-fold}

record CutDocument (all document : DocumentRecord) : Type 0 where
  pub name : document.name ≡ all.name
  pub past : IsCut all.past document.past

abbrev CutOption : Option DocumentRecord → Option DocumentRecord → Type 0
CutOption None None = Unit {0}
CutOption None (Some document) = ⊥
CutOption (Some all) None = ⊥
CutOption (Some all) (Some document) = CutDocument all document

abbrev CutsAll : List DocumentRecord → List DocumentRecord → Type 0
CutsAll [] [] = Unit {0}
CutsAll [] (document ∷ others) = ⊥
CutsAll (all ∷ more) [] = ⊥
CutsAll (all ∷ more) (document ∷ others) = CutDocument all document × CutsAll more others

cuts-themselves : (documents : List DocumentRecord) → CutsAll documents documents
cuts-themselves [] = tt
cuts-themselves (first ∷ others) = (record { name = refl; past = cut-itself first.past }, cuts-themselves others)

cuts-at : (all documents : List DocumentRecord) → CutsAll all documents → (n : ℕ) → CutOption (slice_get all n) (slice_get documents n)
cuts-at [] [] cuts n = tt
cuts-at [] (document ∷ others) cuts n = absurd cuts
cuts-at (first ∷ more) [] cuts n = absurd cuts
cuts-at (first ∷ more) (document ∷ others) cuts zero = cuts.0
cuts-at (first ∷ more) (document ∷ others) cuts (suc n) = cuts-at more others cuts.1 n

cuts-set : (n : ℕ) (made document : Option DocumentRecord) (all documents : List DocumentRecord) → CutOption made document → CutsAll all documents
    → CutsAll (set_document n made all) (set_document n document documents)
cuts-set zero None None all documents cut cuts = cuts
cuts-set (suc n) None None all documents cut cuts = cuts
cuts-set n None (Some document) all documents cut cuts = absurd cut
cuts-set n (Some made) None all documents cut cuts = absurd cut
cuts-set zero (Some made) (Some document) [] [] cut cuts = (cut, tt)
cuts-set (suc n) (Some made) (Some document) [] [] cut cuts = tt
cuts-set n (Some made) (Some document) [] (second ∷ others) cut cuts = absurd cuts
cuts-set n (Some made) (Some document) (first ∷ more) [] cut cuts = absurd cuts
cuts-set zero (Some made) (Some document) (first ∷ more) (second ∷ others) cut cuts = (cut, cuts.1)
cuts-set (suc n) (Some made) (Some document) (first ∷ more) (second ∷ others) cut cuts =
    (cuts.0, cuts-set n (Some made) (Some document) more others cut cuts.1)

-- a document after a command, with nothing let go
abbrev longer_by_name : Option DocumentRecord → Taken → Option (List ℕ) → Option DocumentRecord
longer_by_name None taken None = None
longer_by_name None taken (Some name) = Some (record { name = name; past = longer_by empty_past taken.step (change_of taken) })
longer_by_name (Some found) taken name = Some (record found { past = longer_by found.past taken.step (change_of taken) })

abbrev grown_longer : List DocumentRecord → Taken → List DocumentRecord
grown_longer all taken = set_document taken.document (longer_by_name (slice_get all taken.document) taken taken.name) all

abbrev fold_longer : List DocumentRecord → List Taken → List DocumentRecord
fold_longer all [] = all
fold_longer all (first ∷ others) = fold_longer (grown_longer all first) others

cuts-next : (keep : ℕ) (made found : Option DocumentRecord) (taken : Taken) (name : Option (List ℕ)) → CutOption made found
    → CutOption (longer_by_name made taken name) (record_by_name keep found taken name)
cuts-next keep None None taken None cut = tt
cuts-next keep None None taken (Some name) cut = record { name = refl; past = cut-step keep empty_past empty_past taken.step (change_of taken) (cut-itself empty_past) }
cuts-next keep None (Some found) taken name cut = absurd cut
cuts-next keep (Some made) None taken name cut = absurd cut
cuts-next keep (Some made) (Some found) taken None cut = record { name = cut.name; past = cut-step keep made.past found.past taken.step (change_of taken) cut.past }
cuts-next keep (Some made) (Some found) taken (Some name) cut = record { name = cut.name; past = cut-step keep made.past found.past taken.step (change_of taken) cut.past }

cuts-grown : (all : List DocumentRecord) (state : State) (taken : Taken) → CutsAll all state.documents → CutsAll (grown_longer all taken) (grown state taken).documents
cuts-grown all state taken cuts =
    cuts-set taken.document _ _ all state.documents
    (cuts-next state.limits.keep (slice_get all taken.document) (slice_get state.documents taken.document) taken taken.name (cuts-at all state.documents cuts taken.document)) cuts

cuts-fold : (all : List DocumentRecord) (state : State) (commands : List Taken) → CutsAll all state.documents → CutsAll (fold_longer all commands) (fold state commands).documents
cuts-fold all state [] cuts = cuts
cuts-fold all state (first ∷ others) cuts = cuts-fold (grown_longer all first) (grown state first) others (cuts-grown all state first cuts)

cuts-floors : (keep : ℕ) (composed : List (ℕ × ℕ)) (number : ℕ) (all documents : List DocumentRecord) (floors : List ℕ)
    → may_pick keep composed number documents floors ≡ true → CutsAll all documents → CutsAll all (with_floors documents floors)
cuts-floors keep composed number [] [] floors h cuts = nothing floors
  where
    nothing : (floors : List ℕ) → CutsAll [] (with_floors [] floors)
    nothing [] = tt
    nothing (floor ∷ others) = tt
cuts-floors keep composed number [] (document ∷ others) floors h cuts = absurd cuts
cuts-floors keep composed number (first ∷ more) [] floors h cuts = absurd cuts
cuts-floors keep composed number (first ∷ more) (document ∷ others) [] h cuts = cuts
cuts-floors keep composed number (first ∷ more) (document ∷ others) (floor ∷ floors) h cuts =
    let parts = and_parts (may_begin_at keep (last_composed number composed) document floor) (may_pick keep composed (number + 1) others floors) h in
    let tests = and_parts (nat_le document.past.floor floor && nat_le floor (max document.past.floor (max (last_composed number composed) (revision_of document - keep)))) (nat_le floor (revision_of document)) parts.0 in
    let above = leb-true document.past.floor floor (and_parts (nat_le document.past.floor floor) _ tests.0).0 in
    let below = leb-true floor (revision_of document) tests.1 in
    (record { name = cuts.0.name; past = cut-floor first.past document.past floor above below cuts.0.past }, cuts-floors keep composed (number + 1) more others floors parts.1 cuts.1)

-- two documents that are cut from one agree
documents-agree : (all a b : DocumentRecord) → CutDocument all a → CutDocument all b → DocumentsAgree a b
documents-agree all a b first second = record {
  name = first.name ∙ sym second.name;
  revision = ap newest first.past.is ∙ (newest-from_floor all.past a.past.floor first.past.low first.past.high
      ∙ sym (ap newest second.past.is ∙ newest-from_floor all.past b.past.floor second.past.low second.past.high));
  content = ap (λ p. Rattle.revision.specs.Past.content_at p (newest p)) first.past.is ∙ (content-from_floor all.past a.past.floor first.past.low first.past.high
      ∙ sym (ap (λ p. Rattle.revision.specs.Past.content_at p (newest p)) second.past.is ∙ content-from_floor all.past b.past.floor second.past.low second.past.high));
  sources = ap (λ p. Rattle.revision.specs.Past.sources_at p (newest p)) first.past.is ∙ (sources-from_floor all.past a.past.floor first.past.low first.past.high
      ∙ sym (ap (λ p. Rattle.revision.specs.Past.sources_at p (newest p)) second.past.is ∙ sources-from_floor all.past b.past.floor second.past.low second.past.high));
  past = λ floor over other within. cuts-agree all.past a.past b.past floor first.past second.past over other;
}

places-agree : (all a b : Option DocumentRecord) → CutOption all a → CutOption all b → PlacesAgree a b
places-agree None None None first second = tt
places-agree None (Some a) b first second = absurd first
places-agree None None (Some b) first second = absurd second
places-agree (Some all) None b first second = absurd first
places-agree (Some all) (Some a) None first second = absurd second
places-agree (Some all) (Some a) (Some b) first second = documents-agree all a b first second

fold_longer-append : (all : List DocumentRecord) (first others : List Taken) → fold_longer all (first ++ others) ≡ fold_longer (fold_longer all first) others
fold_longer-append all [] others = refl
fold_longer-append all (taken ∷ more) others = fold_longer-append (grown_longer all taken) more others

-- the state of a world is cut from what the order makes of the start, where nothing is let go of
abbrev IsCutWorld : World → Type 0
IsCutWorld world = CutsAll (fold_longer world.board.start.documents (takens world.board.order)) world.board.state.documents

module _ (world : World) (cut : IsCutWorld world) where
  answered-cut : (command : Command) (answered : Answer) → IsCutWorld (with_answer world command answered)
  answered-cut command (Takes taken) = subst (λ all. CutsAll all (grown world.board.state taken).documents)
      (sym (ap (fold_longer world.board.start.documents) (map-append (λ (e : Entry). e.taken) world.board.order (entry_of command taken ∷ []))
      ∙ fold_longer-append world.board.start.documents (takens world.board.order) (taken ∷ [])))
      (cuts-grown (fold_longer world.board.start.documents (takens world.board.order)) world.board.state taken cut)
  answered-cut command (Repeats revision) = cut
  answered-cut command (Refuses refusal) = cut

  opened-cut : (kept : ℕ) (floors : List ℕ) → can_open world kept floors ≡ true → IsCutWorld (opened world kept floors)
  opened-cut kept floors can =
      cuts-floors world.board.start.limits.keep world.composed 0 (fold_longer world.board.start.documents (takens (take kept world.board.order)))
      (whole world.board.start (takens (take kept world.board.order))).documents floors (and_parts (may_leave world kept) _ can).1
      (cuts-fold world.board.start.documents (keeping_all world.board.start) (takens (take kept world.board.order)) (cuts-themselves world.board.start.documents))

  running-cut : (event : Event) → IsCutWorld (running_step world event)
  running-cut (Submit command) = cond_both (is_numbered command) (with_command world command) world IsCutWorld (λ e. answered-cut command (answer world.board.state command)) (λ e. cut)
  running-cut (Resend command) = cond_both (is_numbered command && is_among_last command.number (last_sent command.name command.source world.sent)) (with_command world command) world IsCutWorld
      (λ e. answered-cut command (answer world.board.state command)) (λ e. cut)
  running-cut (Take count) = cond_both (can_take world.board count && (world.board.settled == world.board.taken)) _ world IsCutWorld (λ e. cut) (λ e. cut)
  running-cut (Device Done) = cond_both (is_written world) (written world Done) world IsCutWorld (λ e. cut) (λ e. cut)
  running-cut (Device Failed) = cond_both (is_written world) (written world Failed) world IsCutWorld (λ e. cut) (λ e. cut)
  running-cut (Device Stopped) = cond_both (is_written world) (written world Stopped) world IsCutWorld (λ e. cut) (λ e. cut)
  running-cut Publish = cond_both (nat_lt (length world.published) world.board.taken && (world.without == world.board.taken)) _ world IsCutWorld (λ e. cut) (λ e. cut)
  running-cut Settle = cond_both (can_settle world.board (world.board.taken - world.board.settled) (length world.published)) _ world IsCutWorld (λ e. cut) (λ e. cut)
  running-cut (Ack place) = by_ticket (slice_get world.tickets place)
    where
      by_ticket : (ticket : Option Ticket) → IsCutWorld (acknowledged world ticket)
      by_ticket None = cut
      by_ticket (Some ticket) = cond_both (can_ack world.board ticket) _ world IsCutWorld (λ e. cut) (λ e. cut)
  running-cut (Compose document revision) = cond_both
      (nat_le 1 revision && nat_le revision (newest_revision (slice_get (fold world.board.start (takens (take world.without world.board.order))).documents document)))
      (record world { composed = world.composed ++ (document, revision) ∷ [] }) world IsCutWorld (λ e. cut) (λ e. cut)
  running-cut (Crash kept) = cond_both (may_leave world kept) (stopped world kept) world IsCutWorld (λ e. cut) (λ e. cut)
  running-cut (Open kept floors) = cond_both (world.failed && can_open world kept floors) (opened world kept floors) world IsCutWorld
      (λ e. opened-cut kept floors (and_parts world.failed (can_open world kept floors) e).1) (λ e. cut)

  crashed-cut : (event : Event) → IsCutWorld (crashed_step world event)
  crashed-cut (Open kept floors) = cond_both (can_open world kept floors) (opened world kept floors) world IsCutWorld (λ e. opened-cut kept floors e) (λ e. cut)
  crashed-cut (Submit command) = cut
  crashed-cut (Resend command) = cut
  crashed-cut (Take count) = cut
  crashed-cut (Device outcome) = cut
  crashed-cut Publish = cut
  crashed-cut Settle = cut
  crashed-cut (Ack place) = cut
  crashed-cut (Compose document revision) = cut
  crashed-cut (Crash kept) = cut

  step-cut : (event : Event) → IsCutWorld (step world event)
  step-cut event = cond_both world.crashed (crashed_step world event) (running_step world event) IsCutWorld (λ e. crashed-cut event) (λ e. running-cut event)

run-cut : (world : World) (events : List Event) → IsCutWorld world → IsCutWorld (run world events)
run-cut world [] cut = cut
run-cut world (first ∷ others) cut = run-cut (step world first) others (step-cut world cut first)

state-agrees : (world : World) → IsConsistent world → IsCutWorld world → StateAgrees world
state-agrees world holds cut = record {
  limits = holds.limits ∙ sym (limits-fold world.board.start (takens world.board.order));
  documents = λ number. places-agree _ (slice_get world.board.state.documents number) (slice_get (fold world.board.start (takens world.board.order)).documents number)
      (cuts-at (fold_longer world.board.start.documents (takens world.board.order)) world.board.state.documents cut number)
      (cuts-at (fold_longer world.board.start.documents (takens world.board.order)) (fold world.board.start (takens world.board.order)).documents
      (cuts-fold world.board.start.documents world.board.start (takens world.board.order) (cuts-themselves world.board.start.documents)) number);
}

pub all-agree : OverAll StateAgrees
all-agree start events = state-agrees (run (begun start) events) (run-holds (begun start) events (begun-holds start)) (run-cut (begun start) events (cuts-themselves start.documents))
