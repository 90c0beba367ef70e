-- A command that the rule of acceptance takes stands from then on as its revision, and one that it answers as a retry stands already.
use Rattle.std.proofs.Common.{◌≡◌, ◌≤◌, ℕ, zero, suc, ◌+◌, Bool, true, false, cond, List, [], ◌∷◌, length, Option, Some, None, Ok, refl, sym, ap, ◌∙◌, subst, arith, inl, inr}
use Rattle.std.specs.Prelude.{◌==◌, nat_lt, nat_le, bytes_eq, slice_get}
use Rattle.std.proofs.lemmas.Bool.Decides.{nat_tests}
use Rattle.std.proofs.lemmas.List.{map-append}
use Rattle.std.proofs.lemmas.Option.{some_pair_parts}
use Rattle.attributes.specs.Map.{empty}
use Rattle.delta.specs.Element.{Element}
use Rattle.delta.specs.Operation.{Operation}
use Rattle.refusal.specs.declared.Refusal.{Refusal}
use Rattle.refusal.specs.declared.Refusal.TheVariants.{PastEnd, CutsPair, TooHeavy, TooWide, RevisionsSpent, TooManySources, Future, TooOld, NothingToUndo, OldNumber, Gap, TooManyDocuments, Deleted, Exists}
use Rattle.revision.specs.Command.{Action, Create, Edit, Undo, Delete, Command, Taken, width_of}
use Rattle.revision.specs.declared.step.Step.{Step}
use Rattle.revision.specs.declared.step.Step.TheVariants.{Edits, Deletes, Revives}
use Rattle.revision.specs.Window.{Window, nothing_taken, taken_as, revision_in, last_revision}
use Rattle.revision.specs.Late.{late}
use Rattle.revision.specs.Parting.{parts_pair}
use Rattle.revision.specs.Past.{Past, empty_past, newest, sources_at, with_step, undo_of, deltas_of, deltas_above}
use Rattle.revision.specs.Sources.{Sources, window_of}
use Rattle.revision.proofs.CallerLemmas.{none_outside, none-past, itself, not_again, number_next}
use Rattle.revision.specs.State.{Limits, DocumentRecord, State, revision_of, units_of, sources_of, is_live, find, last_of_all, reaches_past, weight_after, change_of, record_by_name, set_document, grown, all_grow, fold}
use Rattle.revision.specs.Acceptance.{Answer, Takes, Repeats, Refuses, Reply, TakenAt, AgainAt, Refused, take_within, take_on, creation, create_new, next_revision, revive, change, edit, undo, delete, if_live, by_retry, by_number, answer, answer_to}
use Rattle.world.specs.World.{Entry, entry_of, takens}
use Rattle.hub.specs.Placed.{PlacedBy}
use Rattle.session.specs.declared.reply.Reply.{Reply as Told}
use Rattle.session.specs.declared.reply.Reply.TheVariants.{Taken as TookAt, Again as WasAt}
use Rattle.session.specs.Alone.{answered}
use Rattle.session.specs.Reply.{rev_of}
use Rattle.hub_desk.specs.Laws.{PlacedStands}
use Rattle.hub_desk.specs.Standing.{Reaches, StandsIn}
use Rattle.hub_desk.proofs.Batches.{grow_behind}
use Rattle.hub_desk.proofs.Finding.{noted, window-changed}
use Rattle.hub_desk.proofs.StandsOn.{StandsWhere, reaches-new, stands_answered, stands_later}
use Rattle.world.specs.Law.{window_held}
use Rattle.world.proofs.CallerLemmas.{by_found}
use Rattle.hub.proofs.CallerLemmas.{fold-more}

-- what takes, or repeats, isn't refused first
past-takes : (b : Bool) (refusal : Refusal) (next : Answer) (taken : Taken) → cond b (Refuses refusal) next ≡ Takes taken → (b ≡ false) × (next ≡ Takes taken)
past-takes true refusal next taken is = absurd (cc (is))
past-takes false refusal next taken is = (refl, is)

past-repeats : (b : Bool) (refusal : Refusal) (next : Answer) (revision : ℕ) → cond b (Refuses refusal) next ≡ Repeats revision → next ≡ Repeats revision
past-repeats true refusal next revision is = absurd (cc (is))
past-repeats false refusal next revision is = is

-- what takes, or repeats, is of a live document where that is asked
live-takes : (found : DocumentRecord) (next : Answer) (taken : Taken) → if_live found next ≡ Takes taken → next ≡ Takes taken
live-takes found next taken is = by_mark (is_live found) is
  where
    by_mark : (b : Bool) → cond b next (Refuses Deleted) ≡ Takes taken → next ≡ Takes taken
    by_mark true is = is
    by_mark false is = absurd (cc (is))

live-repeats : (found : DocumentRecord) (next : Answer) (revision : ℕ) → if_live found next ≡ Repeats revision → next ≡ Repeats revision
live-repeats found next revision is = by_mark (is_live found) is
  where
    by_mark : (b : Bool) → cond b next (Refuses Deleted) ≡ Repeats revision → next ≡ Repeats revision
    by_mark true is = is
    by_mark false is = absurd (cc (is))

module _ (limits : Limits) (units : List Element) (sources : Sources) (new : Taken) where
  within-takes : (taken : Taken) → take_within limits units sources new ≡ Takes taken → taken ≡ new
  within-takes taken is =
      let first = past-takes (nat_lt limits.weight (weight_after limits units sources new)) TooHeavy _ taken is in
      let second = past-takes (nat_lt limits.width (width_of new)) TooWide _ taken first.1 in
      let same : Takes new ≡ Takes taken = second.1 in
      cc (same)

  within-repeats : (revision : ℕ) → take_within limits units sources new ≡ Repeats revision → ⊥
  within-repeats revision is =
      let first = past-repeats (nat_lt limits.weight (weight_after limits units sources new)) TooHeavy _ revision is in
      let second : Takes new ≡ Repeats revision = past-repeats (nat_lt limits.width (width_of new)) TooWide _ revision first in
      cc (second)

  on-takes : (taken : Taken) → take_on limits units sources new ≡ Takes taken → taken ≡ new
  on-takes taken is =
      let first = past-takes (reaches_past new.delta units) PastEnd _ taken is in
      let second = past-takes (parts_pair new.delta units) CutsPair _ taken first.1 in
      within-takes taken second.1

  on-repeats : (revision : ℕ) → take_on limits units sources new ≡ Repeats revision → ⊥
  on-repeats revision is =
      let first = past-repeats (reaches_past new.delta units) PastEnd _ revision is in
      let second = past-repeats (parts_pair new.delta units) CutsPair _ revision first in
      within-repeats revision second

module _ (state : State) (number : ℕ) (found : DocumentRecord) (command : Command) where
  -- it is the next revision by some step with some delta
  abbrev pub IsNext : Taken → Type 0
  IsNext taken = (step : Step) × (delta : List Operation) × (taken ≡ next_revision number found command step delta)

  change-takes : (delta : List Operation) (taken : Taken) → change state number found command delta ≡ Takes taken → IsNext taken
  change-takes delta taken is =
      let next = past-takes (revision_of found == last_of_all) RevisionsSpent _ taken is in
      (Edits, delta, on-takes state.limits (units_of found) (sources_of found) (next_revision number found command Edits delta) taken next.1)

  change-repeats : (delta : List Operation) (revision : ℕ) → change state number found command delta ≡ Repeats revision → ⊥
  change-repeats delta revision is =
      on-repeats state.limits (units_of found) (sources_of found) (next_revision number found command Edits delta) revision
      (past-repeats (revision_of found == last_of_all) RevisionsSpent _ revision is)

  edit-takes : (base : ℕ) (delta : List Operation) (taken : Taken) → edit state number found command base delta ≡ Takes taken → IsNext taken
  edit-takes base delta taken is =
      let first = past-takes _ TooManySources _ taken is in
      let second = past-takes (nat_lt (revision_of found) base) Future _ taken first.1 in
      let third = past-takes (nat_lt base found.past.floor) TooOld _ taken second.1 in
      change-takes (late delta (deltas_above found.past base)) taken third.1

  edit-repeats : (base : ℕ) (delta : List Operation) (revision : ℕ) → edit state number found command base delta ≡ Repeats revision → ⊥
  edit-repeats base delta revision is =
      let first = past-repeats _ TooManySources _ revision is in
      let second = past-repeats (nat_lt (revision_of found) base) Future _ revision first in
      let third = past-repeats (nat_lt base found.past.floor) TooOld _ revision second in
      change-repeats (late delta (deltas_above found.past base)) revision third

  undo-takes : (taken : Taken) → undo state number found command ≡ Takes taken → IsNext taken
  undo-takes taken is =
      let window = window_of command.source (sources_of found) in
      let first = past-takes (window.number == 0) NothingToUndo _ taken is in
      let second = past-takes (nat_le (last_revision window) found.past.floor) TooOld _ taken first.1 in
      change-takes (undo_of found.past.floor found.past.content.units (deltas_of found.past) (last_revision window)) taken second.1

  undo-repeats : (revision : ℕ) → undo state number found command ≡ Repeats revision → ⊥
  undo-repeats revision is =
      let window = window_of command.source (sources_of found) in
      let first = past-repeats (window.number == 0) NothingToUndo _ revision is in
      let second = past-repeats (nat_le (last_revision window) found.past.floor) TooOld _ revision first in
      change-repeats (undo_of found.past.floor found.past.content.units (deltas_of found.past) (last_revision window)) revision second

  delete-takes : (taken : Taken) → delete state number found command ≡ Takes taken → IsNext taken
  delete-takes taken is =
      let first = past-takes _ TooManySources _ taken is in
      let second = past-takes (revision_of found == last_of_all) RevisionsSpent _ taken first.1 in
      (Deletes, [], within-takes state.limits (units_of found) (sources_of found) (next_revision number found command Deletes []) taken second.1)

  delete-repeats : (revision : ℕ) → delete state number found command ≡ Repeats revision → ⊥
  delete-repeats revision is =
      let first = past-repeats _ TooManySources _ revision is in
      let second = past-repeats (revision_of found == last_of_all) RevisionsSpent _ revision first in
      within-repeats state.limits (units_of found) (sources_of found) (next_revision number found command Deletes []) revision second

  revive-takes : (delta : List Operation) (taken : Taken) → revive state number found command delta ≡ Takes taken → IsNext taken
  revive-takes delta taken is =
      let first = past-takes _ TooManySources _ taken is in
      let second = past-takes (revision_of found == last_of_all) RevisionsSpent _ taken first.1 in
      (Revives, delta, on-takes state.limits [] (sources_of found) (next_revision number found command Revives delta) taken second.1)

  revive-repeats : (delta : List Operation) (revision : ℕ) → revive state number found command delta ≡ Repeats revision → ⊥
  revive-repeats delta revision is =
      let first = past-repeats _ TooManySources _ revision is in
      let second = past-repeats (revision_of found == last_of_all) RevisionsSpent _ revision first in
      on-repeats state.limits [] (sources_of found) (next_revision number found command Revives delta) revision second

number-repeats : (window : Window) (number : ℕ) (next : Answer) (revision : ℕ) → (next ≡ Repeats revision → ⊥) → by_number window number next ≡ Repeats revision
    → Reaches number revision window
number-repeats window number next revision never is =
    inl (by_found (revision_in number window) _ revision
    (λ later. never (past-repeats (nat_lt (window.number + 1) number) Gap next revision (past-repeats (nat_le number window.number) OldNumber _ revision later))) is)

-- a document that is found by its name, with its place
found-place : (name : List ℕ) (from : ℕ) (documents : List DocumentRecord) (at : ℕ) (found : DocumentRecord) → find name from documents ≡ Some (at, found)
    → (number : ℕ) × (at ≡ from + number) × (slice_get documents number ≡ Some found)
    × ((next : DocumentRecord) → next.name ≡ found.name → find name from (set_document number (Some next) documents) ≡ Some (at, next))
found-place name from [] at found is = absurd (cc (is))
found-place name from (first ∷ others) at found is =
    by_test (λ further. found-place name (from + 1) others at found further) (bytes_eq first.name name) refl is
  where
    by_test : (find name (from + 1) others ≡ Some (at, found)
        → (number : ℕ) × (at ≡ from + 1 + number) × (slice_get others number ≡ Some found)
        × ((next : DocumentRecord) → next.name ≡ found.name → find name (from + 1) (set_document number (Some next) others) ≡ Some (at, next)))
        → (b : Bool) → bytes_eq first.name name ≡ b → cond b (Some (from, first)) (find name (from + 1) others) ≡ Some (at, found)
        → (number : ℕ) × (at ≡ from + number) × (slice_get (first ∷ others) number ≡ Some found)
        × ((next : DocumentRecord) → next.name ≡ found.name → find name from (set_document number (Some next) (first ∷ others)) ≡ Some (at, next))
    by_test more true e here =
        let parts = some_pair_parts from at first found here in
        let start : from ≡ at = parts.0 in
        let this : first ≡ found = parts.1 in (
          0,
          omega (arith, start),
          ap Some this,
          λ next same. ap (λ b. cond b (Some (from, next)) (find name (from + 1) others))
              (ap (λ (n : List ℕ). bytes_eq n name) (same ∙ ap (λ (d : DocumentRecord). d.name) (sym this)) ∙ e)
              ∙ ap (λ n. Some (n, next)) start,
        )
    by_test more false e further =
        let rest = more further in (
          suc rest.0,
          omega (arith, rest.1),
          rest.2,
          λ next same. ap (λ b. cond b (Some (from, first)) (find name (from + 1) (set_document rest.0 (Some next) others))) e ∙ rest.3 next same,
        )

found-at : (name : List ℕ) (documents : List DocumentRecord) (at : ℕ) (found : DocumentRecord) → find name 0 documents ≡ Some (at, found)
    → (slice_get documents at ≡ Some found)
    × ((next : DocumentRecord) → next.name ≡ found.name → find name 0 (set_document at (Some next) documents) ≡ Some (at, next))
found-at name documents at found is =
    let place = found-place name 0 documents at found is in
    let same : place.0 ≡ at = omega (arith, place.1) in
    subst (λ (n : ℕ). (slice_get documents n ≡ Some found)
    × ((next : DocumentRecord) → next.name ≡ found.name → find name 0 (set_document n (Some next) documents) ≡ Some (at, next))) same (place.2, place.3)

-- a document that is put behind all is found by its name, where none was
created-at : (name : List ℕ) (from : ℕ) (documents : List DocumentRecord) (new : DocumentRecord) → find name from documents ≡ None → new.name ≡ name
    → find name from (set_document (length documents) (Some new) documents) ≡ Some (from + length documents, new)
created-at name from [] new none same =
    let start : from ≡ from + 0 = omega arith in
    ap (λ b. cond b (Some (from, new)) None) (ap (λ (n : List ℕ). bytes_eq n name) same ∙ itself name) ∙ ap (λ n. Some (n, new)) start
created-at name from (first ∷ others) new none same = by_test (λ there. created-at name (from + 1) others new there same) (bytes_eq first.name name) none
  where
    by_test : (find name (from + 1) others ≡ None
        → find name (from + 1) (set_document (length others) (Some new) others) ≡ Some (from + 1 + length others, new))
        → (b : Bool) → cond b (Some (from, first)) (find name (from + 1) others) ≡ None
        → cond b (Some (from, first)) (find name (from + 1) (set_document (length others) (Some new) others)) ≡ Some (from + suc (length others), new)
    by_test more true there = absurd (cc (there))
    by_test more false there =
        let count : from + 1 + length others ≡ from + suc (length others) = omega arith in
        more there ∙ ap (λ n. Some (n, new)) count

module _ (state : State) (command : Command) where
  -- where the command's source has it in its window in the document of its name
  stands-there : (taken : Taken) (at : ℕ) (after : DocumentRecord) (before : Window) → find command.name 0 (grown state taken).documents ≡ Some (at, after)
      → window_of command.source (sources_of after) ≡ noted taken before → Reaches command.number taken.revision (noted taken before)
      → StandsIn (grown state taken) command taken.revision
  stands-there taken at after before is window reaches =
      subst (StandsWhere command taken.revision) (sym is) (subst (Reaches command.number taken.revision) (sym window) reaches)

  window-is : (past : Past) (taken : Taken) → taken.source ≡ command.source → taken.revision ≡ newest past + 1
      → window_of command.source (sources_at (with_step state.limits.keep past taken.step (change_of taken)) (newest (with_step state.limits.keep past taken.step (change_of taken))))
      ≡ noted taken (window_of command.source (sources_at past (newest past)))
  window-is past taken source next =
      window-changed state.limits.keep past taken command.source next
      ∙ ap (λ b. cond b (noted taken (window_of command.source (sources_at past (newest past)))) (window_of command.source (sources_at past (newest past))))
      (ap (λ (s : List ℕ). bytes_eq s command.source) source ∙ itself command.source)

  -- a step of a document that is there
  stands-changed : (number : ℕ) (found : DocumentRecord) (step : Step) (delta : List Operation) → find command.name 0 state.documents ≡ Some (number, found)
      → command.number ≡ (window_of command.source (sources_of found)).number + 1
      → StandsIn (grown state (next_revision number found command step delta)) command (revision_of found + 1)
  stands-changed number found step delta is next =
      let taken = next_revision number found command step delta in
      let there = found-at command.name state.documents number found is in
      let after = record found { past = with_step state.limits.keep found.past step (change_of taken) } in
      stands-there taken number after (window_of command.source (sources_of found))
      (ap (λ (d : Option DocumentRecord). find command.name 0 (set_document number (record_by_name state.limits.keep d taken None) state.documents)) there.0 ∙ there.1 after refl)
      (window-is found.past taken refl refl) (reaches-new command.number (revision_of found + 1) (window_of command.source (sources_of found)) next)

  -- a creation
  stands-created : (delta : List Operation) → find command.name 0 state.documents ≡ None → command.number ≤ 1 → StandsIn (grown state (creation state command delta)) command 1
  stands-created delta none le =
      let taken = creation state command delta in
      let after : DocumentRecord = record { name = command.name; past = with_step state.limits.keep empty_past Edits (change_of taken) } in
      stands-there taken (0 + length state.documents) after nothing_taken
      (ap (λ (d : Option DocumentRecord). find command.name 0 (set_document (length state.documents) (record_by_name state.limits.keep d taken (Some command.name)) state.documents))
      (none-past state.documents) ∙ created-at command.name 0 state.documents after none refl)
      (window-is empty_past taken refl refl) (first-reaches command.number le)
    where
      -- the number is the first one, or below the window
      first-reaches : (number : ℕ) → number ≤ 1 → Reaches number 1 (taken_as 1 1 nothing_taken)
      first-reaches zero le = inr (none_outside (taken_as 1 1 nothing_taken) 0 (λ inside. absurd (omega (arith, inside.above, latest_long))), omega arith)
        where
          latest_long : length (taken_as 1 1 nothing_taken).revisions ≡ 1
          latest_long = refl
      first-reaches (suc zero) le = reaches-new 1 1 nothing_taken refl
      first-reaches (suc (suc number)) le = absurd (omega (arith, le))

  created-takes : (delta : List Operation) (taken : Taken) → create_new state command delta ≡ Takes taken → (command.number ≤ 1) × (taken ≡ creation state command delta)
  created-takes delta taken is =
      let first = past-takes (nat_lt 1 command.number) Gap _ taken is in
      let second = past-takes (nat_le state.limits.docs (length state.documents)) TooManyDocuments _ taken first.1 in
      let low = first.0 in (
        grind (low, arith, nat_tests),
        on-takes state.limits [] empty (creation state command delta) taken second.1,
      )

  created-repeats : (delta : List Operation) (revision : ℕ) → create_new state command delta ≡ Repeats revision → ⊥
  created-repeats delta revision is =
      on-repeats state.limits [] empty (creation state command delta) revision
      (past-repeats (nat_le state.limits.docs (length state.documents)) TooManyDocuments _ revision (past-repeats (nat_lt 1 command.number) Gap _ revision is))

  changed-by : (found : ℕ × DocumentRecord) (taken : Taken) → find command.name 0 state.documents ≡ Some found
      → command.number ≡ (window_of command.source (sources_of found.1)).number + 1
      → IsNext state found.0 found.1 command taken → StandsIn (grown state taken) command taken.revision
  changed-by found taken is next (step, delta, same) =
      subst (λ (t : Taken). StandsIn (grown state t) command t.revision) (sym same) (stands-changed found.0 found.1 step delta is next)

  -- a creation of a document that is there, live or deleted
  recreated-by : (found : ℕ × DocumentRecord) (delta : List Operation) (taken : Taken) (live : Bool) → find command.name 0 state.documents ≡ Some found
      → cond live (by_retry (revision_in command.number (window_of command.source (sources_of found.1))) (Refuses Exists))
      (by_number (window_of command.source (sources_of found.1)) command.number (revive state found.0 found.1 command delta)) ≡ Takes taken
      → StandsIn (grown state taken) command taken.revision
  recreated-by found delta taken true some is =
      absurd (cc (not_again (revision_in command.number (window_of command.source (sources_of found.1))) _ taken is))
  recreated-by found delta taken false some is =
      let number = number_next (window_of command.source (sources_of found.1)) command.number _ taken is in
      changed-by found taken some number.0 (revive-takes state found.0 found.1 command delta taken number.1)

  taken-to : (action : Action) (there : Option (ℕ × DocumentRecord)) (taken : Taken) → find command.name 0 state.documents ≡ there
      → answer_to state command action there ≡ Takes taken → StandsIn (grown state taken) command taken.revision
  taken-to (Create delta) None taken none is =
      let made = created-takes delta taken is in
      subst (λ (t : Taken). StandsIn (grown state t) command t.revision) (sym made.1) (stands-created delta none made.0)
  taken-to (Create delta) (Some found) taken some is = recreated-by found delta taken (is_live found.1) some is
  taken-to (Edit base delta) None taken none is = absurd (cc (is))
  taken-to (Edit base delta) (Some found) taken some is =
      let number = number_next (window_of command.source (sources_of found.1)) command.number _ taken is in
      changed-by found taken some number.0 (edit-takes state found.0 found.1 command base delta taken (live-takes found.1 _ taken number.1))
  taken-to Undo None taken none is = absurd (cc (is))
  taken-to Undo (Some found) taken some is =
      let number = number_next (window_of command.source (sources_of found.1)) command.number _ taken is in
      changed-by found taken some number.0 (undo-takes state found.0 found.1 command taken (live-takes found.1 _ taken number.1))
  taken-to Delete None taken none is = absurd (cc (is))
  taken-to Delete (Some found) taken some is =
      let number = number_next (window_of command.source (sources_of found.1)) command.number _ taken is in
      changed-by found taken some number.0 (delete-takes state found.0 found.1 command taken (live-takes found.1 _ taken number.1))

  stands_taken : (taken : Taken) → answer state command ≡ Takes taken → StandsIn (grown state taken) command taken.revision
  stands_taken taken is = taken-to command.action (find command.name 0 state.documents) taken refl is

  created-again : (found : ℕ × DocumentRecord) (delta : List Operation) (revision : ℕ) (live : Bool)
      → cond live (by_retry (revision_in command.number (window_of command.source (sources_of found.1))) (Refuses Exists))
      (by_number (window_of command.source (sources_of found.1)) command.number (revive state found.0 found.1 command delta)) ≡ Repeats revision
      → Reaches command.number revision (window_of command.source (sources_of found.1))
  created-again found delta revision true is =
      inl (by_found (revision_in command.number (window_of command.source (sources_of found.1))) _ revision (λ never. cc (never)) is)
  created-again found delta revision false is =
      number-repeats (window_of command.source (sources_of found.1)) command.number _ revision (revive-repeats state found.0 found.1 command delta revision) is

  again-to : (action : Action) (there : Option (ℕ × DocumentRecord)) (revision : ℕ) → answer_to state command action there ≡ Repeats revision
      → StandsWhere command revision there
  again-to (Create delta) None revision is = absurd (created-repeats delta revision is)
  again-to (Create delta) (Some found) revision is = created-again found delta revision (is_live found.1) is
  again-to (Edit base delta) None revision is = absurd (cc (is))
  again-to (Edit base delta) (Some found) revision is =
      number-repeats (window_of command.source (sources_of found.1)) command.number _ revision
      (λ later. edit-repeats state found.0 found.1 command base delta revision (live-repeats found.1 _ revision later)) is
  again-to Undo None revision is = absurd (cc (is))
  again-to Undo (Some found) revision is =
      number-repeats (window_of command.source (sources_of found.1)) command.number _ revision
      (λ later. undo-repeats state found.0 found.1 command revision (live-repeats found.1 _ revision later)) is
  again-to Delete None revision is = absurd (cc (is))
  again-to Delete (Some found) revision is =
      number-repeats (window_of command.source (sources_of found.1)) command.number _ revision
      (λ later. delete-repeats state found.0 found.1 command revision (live-repeats found.1 _ revision later)) is

  stands_again : (revision : ℕ) → answer state command ≡ Repeats revision → StandsIn state command revision
  stands_again revision is = again-to command.action (find command.name 0 state.documents) revision is

-- what is answered as a retry has its number in its source's window, as that revision
pub again_held : (state : State) (command : Command) (revision : ℕ) → answer state command ≡ Repeats revision
    → revision_in command.number (window_held state command) ≡ Some revision
again_held state command revision is = elim (stands_answered state command revision (stands_again state command revision is)) [
  | inl made ↦ made.0
  | inr old ↦ let refused = old.2 in absurd (cc (is, refused))
]

-- what the order of a ticket makes has its command
placed-there : (start : State) (order : List Entry) (command : Command) (due : Reply) (reply : Told) → PlacedBy start order command due → answered due ≡ Ok reply
    → StandsIn (fold start (takens order)) command (rev_of reply)
placed-there start order command (TakenAt revision) reply (before, taken, whole, takes, made) answers =
    let told : TookAt revision ≡ reply = cc (answers) in
    let same : taken.revision ≡ rev_of reply = made ∙ ap (λ (r : Told). rev_of r) told in
    let state : fold start (takens order) ≡ grown (fold start (takens before)) taken =
    ap (λ (o : List Entry). fold start (takens o)) whole ∙ (ap (fold start) (map-append (λ (e : Entry). e.taken) before (entry_of command taken ∷ []))
    ∙ fold-more start (takens before) taken) in
    subst (λ (s : State). StandsIn s command (rev_of reply)) (sym state)
    (subst (λ (r : ℕ). StandsIn (grown (fold start (takens before)) taken) command r) same (stands_taken (fold start (takens before)) command taken takes))
placed-there start order command (AgainAt revision) reply repeats answers =
    let told : WasAt revision ≡ reply = cc (answers) in
    let same : revision ≡ rev_of reply = ap (λ (r : Told). rev_of r) told in
    subst (λ (r : ℕ). StandsIn (fold start (takens order)) command r) same (stands_again (fold start (takens order)) command revision repeats)
placed-there start order command (Refused refusal) reply placed answers = absurd placed

pub placed_stands : PlacedStands
placed_stands start ticket commands reply grow stands answer =
    let order = stands.order in
    let there = placed-there start order ticket.command ticket.reply reply stands.placed.reply answer in
    let behind = grow_behind (takens order) stands.first.0 start (subst (λ (l : List Taken). all_grow start l ≡ true) (sym stands.first.1) grow) in
    let whole : fold start commands ≡ fold (fold start (takens order)) stands.first.0 = ap (fold start) (sym stands.first.1) ∙ behind.1 in
    subst (λ (s : State). StandsIn s ticket.command (rev_of reply)) (sym whole)
    (stands_later (fold start (takens order)) stands.first.0 ticket.command (rev_of reply) behind.0 there)
