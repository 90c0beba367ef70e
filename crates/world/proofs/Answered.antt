-- What an answer tells of a source's numbers.
use Rattle.std.proofs.Common.{◌≡◌, ℕ, suc, ◌+◌, ◌-◌, ◌≤◌, Bool, true, false, cond, List, [], ◌∷◌, length, map, Option, Some, None, refl, sym, ap, ◌∙◌, subst, arith}
use Rattle.std.specs.Prelude.{◌==◌, not, nat_lt, nat_le, bytes_eq, slice_get}
use Rattle.std.proofs.lemmas.Bool.Decides.{nat_tests}
use Rattle.std.proofs.lemmas.List.{length-map}
use Rattle.std.proofs.lemmas.Option.{some_pair_parts}
use Rattle.refusal.specs.declared.Refusal.TheVariants.{Exists, Gap, OldNumber, TooManySources, Future, TooOld, PastEnd, CutsPair, TooHeavy, TooWide, RevisionsSpent, NothingToUndo, TooManyDocuments, Deleted}
use Rattle.attributes.specs.Map.{empty}
use Rattle.delta.specs.Element.{Element}
use Rattle.delta.specs.Operation.{Operation}
use Rattle.revision.specs.Command.{Taken, width_of, Action, Create, Edit, Undo, Delete, Command}
use Rattle.revision.specs.declared.step.Step.{Step}
use Rattle.revision.specs.declared.step.Step.TheVariants.{Edits, Deletes, Revives}
use Rattle.revision.specs.State.{reaches_past, Limits, DocumentRecord, State, revision_of, units_of, sources_of, is_live, find, last_of_all, weight_after, has_place}
use Rattle.revision.specs.Parting.{parts_pair}
use Rattle.revision.specs.Late.{late}
use Rattle.revision.specs.Past.{undo_of, deltas_of, deltas_above}
use Rattle.revision.specs.Window.{Window, nothing_taken, revision_in, last_revision}
use Rattle.revision.specs.Sources.{Sources, window_of}
use Rattle.revision.specs.Acceptance.{Answer, Takes, Repeats, Refuses, take_within, take_on, creation, next_revision, change, edit, undo, revive, delete, by_retry, if_live, by_number, answer_to, answer}
use Rattle.world.specs.World.{entry_of}
use Rattle.world.specs.Shown.{Shown, shown, all_shown}
use Rattle.world.proofs.Numbers.{window_in, IsNew, IsNextAt, Placed}
use Rattle.revision.proofs.CallerLemmas.{passed, number_next}

-- a test that refuses repeats nothing
asked_again : (b : Bool) (refusal next : Answer) (revision : ℕ) → (refusal ≡ Repeats revision → ⊥) → cond b refusal next ≡ Repeats revision → (b ≡ false) × (next ≡ Repeats revision)
asked_again true refusal next revision differs h = absurd (differs h)
asked_again false refusal next revision differs h = (refl, h)

-- what is taken is what was asked for
within_same : (limits : Limits) (units : List Element) (sources : Sources) (asked taken : Taken) → take_within limits units sources asked ≡ Takes taken → asked ≡ taken
within_same limits units sources asked taken h =
    let heavy = passed (nat_lt limits.weight (weight_after limits units sources asked)) (Refuses TooHeavy) _ taken (λ e. cc) h in
    let wide = passed (nat_lt limits.width (width_of asked)) (Refuses TooWide) _ taken (λ e. cc) heavy.1 in
    cc

taken_same : (limits : Limits) (units : List Element) (sources : Sources) (asked taken : Taken) → take_on limits units sources asked ≡ Takes taken → asked ≡ taken
taken_same limits units sources asked taken h =
    let past = passed (reaches_past asked.delta units) (Refuses PastEnd) _ taken (λ e. cc) h in
    let cut = passed (parts_pair asked.delta units) (Refuses CutsPair) _ taken (λ e. cc) past.1 in
    within_same limits units sources asked taken cut.1

-- and it is no retry
within_anew : (limits : Limits) (units : List Element) (sources : Sources) (asked : Taken) (revision : ℕ) → take_within limits units sources asked ≡ Repeats revision → ⊥
within_anew limits units sources asked revision h =
    let heavy = asked_again (nat_lt limits.weight (weight_after limits units sources asked)) (Refuses TooHeavy) _ revision (λ e. cc) h in
    let wide = asked_again (nat_lt limits.width (width_of asked)) (Refuses TooWide) _ revision (λ e. cc) heavy.1 in
    cc

taken_anew : (limits : Limits) (units : List Element) (sources : Sources) (asked : Taken) (revision : ℕ) → take_on limits units sources asked ≡ Repeats revision → ⊥
taken_anew limits units sources asked revision h =
    let past = asked_again (reaches_past asked.delta units) (Refuses PastEnd) _ revision (λ e. cc) h in
    let cut = asked_again (parts_pair asked.delta units) (Refuses CutsPair) _ revision (λ e. cc) past.1 in
    within_anew limits units sources asked revision cut.1

-- nothing but of a live document comes of what asks for one
of_live : (live : Bool) (next answered : Answer) → (Refuses Deleted ≡ answered → ⊥) → cond live next (Refuses Deleted) ≡ answered → next ≡ answered
of_live true next answered differs h = h
of_live false next answered differs h = absurd (differs h)

pub found-window : (name source : List ℕ) (k number : ℕ) (documents : List DocumentRecord) (found : DocumentRecord) → find name k documents ≡ Some (number, found)
    → window_in name source (map shown documents) ≡ window_of source (sources_of found)
found-window name source k number [] found h = cc
found-window name source k number (first ∷ others) found h = by_test (λ e. found-window name source (k + 1) number others found e) (bytes_eq first.name name) h
  where
    by_test : (find name (k + 1) others ≡ Some (number, found) → window_in name source (map shown others) ≡ window_of source (sources_of found)) → (b : Bool)
        → cond b (Some (k, first)) (find name (k + 1) others) ≡ Some (number, found)
        → cond b (window_of source (sources_of first)) (window_in name source (map shown others)) ≡ window_of source (sources_of found)
    by_test further true e = ap (λ (d : DocumentRecord). window_of source (sources_of d)) (some_pair_parts k number first found e).1
    by_test further false e = further e

pub none-new : (name : List ℕ) (k : ℕ) (documents : List DocumentRecord) → find name k documents ≡ None → IsNew name (map shown documents)
none-new name k [] h = tt
none-new name k (first ∷ others) h = by_test (λ e. none-new name (k + 1) others e) (bytes_eq first.name name) refl h
  where
    by_test : (find name (k + 1) others ≡ None → IsNew name (map shown others)) → (b : Bool) → bytes_eq first.name name ≡ b
        → cond b (Some (k, first)) (find name (k + 1) others) ≡ None → (bytes_eq first.name name ≡ false) × IsNew name (map shown others)
    by_test further true is e = absurd (cc)
    by_test further false is e = (is, further e)

pub new-window : (name source : List ℕ) (documents : List Shown) → IsNew name documents → window_in name source documents ≡ nothing_taken
new-window name source [] new = refl
new-window name source (first ∷ others) new = ap (λ b. cond b (window_of source first.sources) (window_in name source others)) new.0 ∙ new-window name source others new.1

found-at : (name : List ℕ) (revision k number : ℕ) (documents : List DocumentRecord) (found : DocumentRecord) → find name k documents ≡ Some (number, found)
    → revision ≡ revision_of found + 1 → (k ≤ number) × IsNextAt name revision (number - k) (map shown documents)
found-at name revision k number [] found h next = absurd (cc)
found-at name revision k number (first ∷ others) found h next = by_test (λ e. found-at name revision (k + 1) number others found e next) (bytes_eq first.name name) refl h
  where
    by_test : (find name (k + 1) others ≡ Some (number, found) → (k + 1 ≤ number) × IsNextAt name revision (number - (k + 1)) (map shown others)) → (b : Bool) → bytes_eq first.name name ≡ b
        → cond b (Some (k, first)) (find name (k + 1) others) ≡ Some (number, found)
        → (k ≤ number) × IsNextAt name revision (number - k) (shown first ∷ map shown others)
    by_test further true is e =
        let parts : (k ≡ number) × (first ≡ found) = some_pair_parts k number first found e in
        let none : number - k ≡ 0 = omega (arith, parts.0) in
        (omega (arith, parts.0), subst (λ n. IsNextAt name revision n (shown first ∷ map shown others)) (sym none) (is, next ∙ ap (λ (d : DocumentRecord). revision_of d + 1) (sym parts.1)))
    by_test further false is e =
        let more = further e in
        let one : number - k ≡ suc (number - (k + 1)) = omega (arith, more.0) in
        (omega (arith, more.0), subst (λ n. IsNextAt name revision n (shown first ∷ map shown others)) (sym one) (is, more.1))

-- where nothing that comes next is a retry, the revision is that which the number made
pub by_found : (found : Option ℕ) (next : Answer) (revision : ℕ) → (next ≡ Repeats revision → ⊥) → by_retry found next ≡ Repeats revision → found ≡ Some revision
by_found None next revision anew h = absurd (anew h)
by_found (Some made) next revision anew h = cc

-- the number made this revision
number_made : (window : Window) (number revision : ℕ) (next : Answer) → (next ≡ Repeats revision → ⊥) → by_number window number next ≡ Repeats revision
    → revision_in number window ≡ Some revision
number_made window number revision next anew h = by_found (revision_in number window) _ revision fresh h
  where
    fresh : cond (nat_le number window.number) (Refuses OldNumber) (cond (nat_lt (window.number + 1) number) (Refuses Gap) next) ≡ Repeats revision → ⊥
    fresh e =
        let old = asked_again (nat_le number window.number) (Refuses OldNumber) _ revision (λ e. cc) e in
        let gap = asked_again (nat_lt (window.number + 1) number) (Refuses Gap) next revision (λ e. cc) old.1 in
        anew gap.1

-- and a number that made a revision is a retry
pub number_again : (window : Window) (number revision : ℕ) (next : Answer) → revision_in number window ≡ Some revision → by_number window number next ≡ Repeats revision
number_again window number revision next is =
    ap (λ made. by_retry made (cond (nat_le number window.number) (Refuses OldNumber) (cond (nat_lt (window.number + 1) number) (Refuses Gap) next))) is

-- where the document of the command's name is found
module _ (state : State) (number : ℕ) (found : DocumentRecord) (command : Command) (there : find command.name 0 state.documents ≡ Some (number, found)) where
  own_window : window_in command.name command.source (all_shown state) ≡ window_of command.source (sources_of found)
  own_window = found-window command.name command.source 0 number state.documents found there

  step_placed : (step : Step) (delta : List Operation) (taken : Taken) → command.number ≡ (window_of command.source (sources_of found)).number + 1
      → next_revision number found command step delta ≡ taken → Placed (all_shown state) (entry_of command taken)
  step_placed step delta taken next same =
      subst (λ t. Placed (all_shown state) (entry_of command t)) same (record {
        source = refl;
        number = refl;
        next = next ∙ ap (λ (w : Window). w.number + 1) (sym own_window);
        place = subst (λ n. IsNextAt command.name (revision_of found + 1) n (all_shown state)) whole (found-at command.name (revision_of found + 1) 0 number state.documents found there refl).1;
      })
    where
      whole : number - 0 ≡ number
      whole = omega arith

  next_placed : (delta : List Operation) (taken : Taken) → command.number ≡ (window_of command.source (sources_of found)).number + 1
      → change state number found command delta ≡ Takes taken → Placed (all_shown state) (entry_of command taken)
  next_placed delta taken next h =
      let spent = passed (revision_of found == last_of_all) (Refuses RevisionsSpent) _ taken (λ e. cc) h in
      step_placed Edits delta taken next (taken_same state.limits (units_of found) (sources_of found) (next_revision number found command Edits delta) taken spent.1)

  revive_placed : (delta : List Operation) (taken : Taken) → command.number ≡ (window_of command.source (sources_of found)).number + 1
      → revive state number found command delta ≡ Takes taken → Placed (all_shown state) (entry_of command taken)
  revive_placed delta taken next h =
      let full = passed (not (has_place state.limits command.source (sources_of found))) (Refuses TooManySources) _ taken (λ e. cc) h in
      let spent = passed (revision_of found == last_of_all) (Refuses RevisionsSpent) _ taken (λ e. cc) full.1 in
      step_placed Revives delta taken next (taken_same state.limits [] (sources_of found) (next_revision number found command Revives delta) taken spent.1)

  delete_placed : (taken : Taken) → command.number ≡ (window_of command.source (sources_of found)).number + 1
      → delete state number found command ≡ Takes taken → Placed (all_shown state) (entry_of command taken)
  delete_placed taken next h =
      let full = passed (not (has_place state.limits command.source (sources_of found))) (Refuses TooManySources) _ taken (λ e. cc) h in
      let spent = passed (revision_of found == last_of_all) (Refuses RevisionsSpent) _ taken (λ e. cc) full.1 in
      step_placed Deletes [] taken next (within_same state.limits (units_of found) (sources_of found) (next_revision number found command Deletes []) taken spent.1)

  existing_takes : (found : Option ℕ) (taken : Taken) → by_retry found (Refuses Exists) ≡ Takes taken → ⊥
  existing_takes None taken h = cc
  existing_takes (Some revision) taken h = cc

  edit_change : (base : ℕ) (delta : List Operation) (taken : Taken) → edit state number found command base delta ≡ Takes taken
      → change state number found command (late delta (deltas_above found.past base)) ≡ Takes taken
  edit_change base delta taken h =
      let full = passed (not (has_place state.limits command.source (sources_of found))) (Refuses TooManySources) _ taken (λ e. cc) h in
      let future = passed (nat_lt (revision_of found) base) (Refuses Future) _ taken (λ e. cc) full.1 in
      (passed (nat_lt base found.past.floor) (Refuses TooOld) _ taken (λ e. cc) future.1).1

  undo_change : (taken : Taken) → undo state number found command ≡ Takes taken
      → change state number found command (undo_of found.past.floor found.past.content.units (deltas_of found.past) (last_revision (window_of command.source (sources_of found)))) ≡ Takes taken
  undo_change taken h =
      let none = passed ((window_of command.source (sources_of found)).number == 0) (Refuses NothingToUndo) _ taken (λ e. cc) h in
      (passed (nat_le (last_revision (window_of command.source (sources_of found))) found.past.floor) (Refuses TooOld) _ taken (λ e. cc) none.1).1

  created_placed : (delta : List Operation) (taken : Taken) (live : Bool)
      → cond live (by_retry (revision_in command.number (window_of command.source (sources_of found))) (Refuses Exists))
      (by_number (window_of command.source (sources_of found)) command.number (revive state number found command delta)) ≡ Takes taken
      → Placed (all_shown state) (entry_of command taken)
  created_placed delta taken true h = absurd (existing_takes _ taken h)
  created_placed delta taken false h =
      let next = number_next (window_of command.source (sources_of found)) command.number (revive state number found command delta) taken h in
      revive_placed delta taken next.0 next.1

  found_placed : (action : Action) (taken : Taken) → 1 ≤ command.number → answer_to state command action (Some (number, found)) ≡ Takes taken
      → Placed (all_shown state) (entry_of command taken)
  found_placed (Create delta) taken some h = created_placed delta taken (is_live found) h
  found_placed (Edit base delta) taken some h =
      let next = number_next (window_of command.source (sources_of found)) command.number (if_live found (edit state number found command base delta)) taken h in
      next_placed (late delta (deltas_above found.past base)) taken next.0
      (edit_change base delta taken (of_live (is_live found) (edit state number found command base delta) (Takes taken) (λ e. cc) next.1))
  found_placed Undo taken some h =
      let next = number_next (window_of command.source (sources_of found)) command.number (if_live found (undo state number found command)) taken h in
      next_placed (undo_of found.past.floor found.past.content.units (deltas_of found.past) (last_revision (window_of command.source (sources_of found)))) taken next.0
      (undo_change taken (of_live (is_live found) (undo state number found command) (Takes taken) (λ e. cc) next.1))
  found_placed Delete taken some h =
      let next = number_next (window_of command.source (sources_of found)) command.number (if_live found (delete state number found command)) taken h in
      delete_placed taken next.0 (of_live (is_live found) (delete state number found command) (Takes taken) (λ e. cc) next.1)

  change_anew : (delta : List Operation) (revision : ℕ) → change state number found command delta ≡ Repeats revision → ⊥
  change_anew delta revision h =
      let spent = asked_again (revision_of found == last_of_all) (Refuses RevisionsSpent) _ revision (λ e. cc) h in
      taken_anew state.limits (units_of found) (sources_of found) (next_revision number found command Edits delta) revision spent.1

  edit_anew : (base : ℕ) (delta : List Operation) (revision : ℕ) → edit state number found command base delta ≡ Repeats revision → ⊥
  edit_anew base delta revision h =
      let full = asked_again (not (has_place state.limits command.source (sources_of found))) (Refuses TooManySources) _ revision (λ e. cc) h in
      let future = asked_again (nat_lt (revision_of found) base) (Refuses Future) _ revision (λ e. cc) full.1 in
      change_anew (late delta (deltas_above found.past base)) revision (asked_again (nat_lt base found.past.floor) (Refuses TooOld) _ revision (λ e. cc) future.1).1

  undo_anew : (revision : ℕ) → undo state number found command ≡ Repeats revision → ⊥
  undo_anew revision h =
      let none = asked_again ((window_of command.source (sources_of found)).number == 0) (Refuses NothingToUndo) _ revision (λ e. cc) h in
      change_anew (undo_of found.past.floor found.past.content.units (deltas_of found.past) (last_revision (window_of command.source (sources_of found)))) revision (asked_again (nat_le (last_revision (window_of command.source (sources_of found))) found.past.floor) (Refuses TooOld) _ revision (λ e. cc) none.1).1

  revive_anew : (delta : List Operation) (revision : ℕ) → revive state number found command delta ≡ Repeats revision → ⊥
  revive_anew delta revision h =
      let full = asked_again (not (has_place state.limits command.source (sources_of found))) (Refuses TooManySources) _ revision (λ e. cc) h in
      let spent = asked_again (revision_of found == last_of_all) (Refuses RevisionsSpent) _ revision (λ e. cc) full.1 in
      taken_anew state.limits [] (sources_of found) (next_revision number found command Revives delta) revision spent.1

  delete_anew : (revision : ℕ) → delete state number found command ≡ Repeats revision → ⊥
  delete_anew revision h =
      let full = asked_again (not (has_place state.limits command.source (sources_of found))) (Refuses TooManySources) _ revision (λ e. cc) h in
      let spent = asked_again (revision_of found == last_of_all) (Refuses RevisionsSpent) _ revision (λ e. cc) full.1 in
      within_anew state.limits (units_of found) (sources_of found) (next_revision number found command Deletes []) revision spent.1

  created_repeats : (delta : List Operation) (revision : ℕ) (live : Bool)
      → cond live (by_retry (revision_in command.number (window_of command.source (sources_of found))) (Refuses Exists))
      (by_number (window_of command.source (sources_of found)) command.number (revive state number found command delta)) ≡ Repeats revision
      → revision_in command.number (window_of command.source (sources_of found)) ≡ Some revision
  created_repeats delta revision true h = by_found (revision_in command.number (window_of command.source (sources_of found))) (Refuses Exists) revision (λ e. cc) h
  created_repeats delta revision false h =
      number_made (window_of command.source (sources_of found)) command.number revision (revive state number found command delta) (revive_anew delta revision) h

  found_repeats : (action : Action) (revision : ℕ) → answer_to state command action (Some (number, found)) ≡ Repeats revision
      → revision_in command.number (window_of command.source (sources_of found)) ≡ Some revision
  found_repeats (Create delta) revision h = created_repeats delta revision (is_live found) h
  found_repeats (Edit base delta) revision h =
      number_made (window_of command.source (sources_of found)) command.number revision (if_live found (edit state number found command base delta))
      (λ e. edit_anew base delta revision (of_live (is_live found) (edit state number found command base delta) (Repeats revision) (λ e. cc) e)) h
  found_repeats Undo revision h =
      number_made (window_of command.source (sources_of found)) command.number revision (if_live found (undo state number found command))
      (λ e. undo_anew revision (of_live (is_live found) (undo state number found command) (Repeats revision) (λ e. cc) e)) h
  found_repeats Delete revision h =
      number_made (window_of command.source (sources_of found)) command.number revision (if_live found (delete state number found command))
      (λ e. delete_anew revision (of_live (is_live found) (delete state number found command) (Repeats revision) (λ e. cc) e)) h

  created_again : (delta : List Operation) (revision : ℕ) (live : Bool) → revision_in command.number (window_of command.source (sources_of found)) ≡ Some revision
      → cond live (by_retry (revision_in command.number (window_of command.source (sources_of found))) (Refuses Exists))
      (by_number (window_of command.source (sources_of found)) command.number (revive state number found command delta)) ≡ Repeats revision
  created_again delta revision true is = ap (λ made. by_retry made (Refuses Exists)) is
  created_again delta revision false is = number_again (window_of command.source (sources_of found)) command.number revision (revive state number found command delta) is

  found_again : (action : Action) (revision : ℕ) → revision_in command.number (window_of command.source (sources_of found)) ≡ Some revision
      → answer_to state command action (Some (number, found)) ≡ Repeats revision
  found_again (Create delta) revision is = created_again delta revision (is_live found) is
  found_again (Edit base delta) revision is =
      number_again (window_of command.source (sources_of found)) command.number revision (if_live found (edit state number found command base delta)) is
  found_again Undo revision is = number_again (window_of command.source (sources_of found)) command.number revision (if_live found (undo state number found command)) is
  found_again Delete revision is = number_again (window_of command.source (sources_of found)) command.number revision (if_live found (delete state number found command)) is

-- where it isn't
module _ (state : State) (command : Command) (fresh : find command.name 0 state.documents ≡ None) where
  none_there : window_in command.name command.source (all_shown state) ≡ nothing_taken
  none_there = new-window command.name command.source (all_shown state) (none-new command.name 0 state.documents fresh)

  fresh_placed : (action : Action) (taken : Taken) → 1 ≤ command.number → answer_to state command action None ≡ Takes taken
      → Placed (all_shown state) (entry_of command taken)
  fresh_placed (Create delta) taken some h =
      let gap = passed (nat_lt 1 command.number) (Refuses Gap) _ taken (λ e. cc) h in
      let docs = passed (nat_le state.limits.docs (length state.documents)) (Refuses TooManyDocuments) _ taken (λ e. cc) gap.1 in
      let same : creation state command delta ≡ taken = taken_same state.limits [] empty (creation state command delta) taken docs.1 in
      let one : 1 ≡ command.number = first_number command.number some gap.0 in
      subst (λ t. Placed (all_shown state) (entry_of command t)) same (record {
        source = refl;
        number = one;
        next = sym one ∙ ap (λ (w : Window). w.number + 1) (sym none_there);
        place = (refl, sym (length-map state.documents shown), refl, none-new command.name 0 state.documents fresh);
      })
    where
      first_number : (n : ℕ) → 1 ≤ n → nat_lt 1 n ≡ false → 1 ≡ n
      first_number n some gap = grind (arith, nat_tests)
  fresh_placed (Edit base delta) taken some h = absurd (cc)
  fresh_placed Undo taken some h = absurd (cc)
  fresh_placed Delete taken some h = absurd (cc)

  fresh_anew : (action : Action) (revision : ℕ) → answer_to state command action None ≡ Repeats revision → ⊥
  fresh_anew (Create delta) revision h =
      let gap = asked_again (nat_lt 1 command.number) (Refuses Gap) _ revision (λ e. cc) h in
      let docs = asked_again (nat_le state.limits.docs (length state.documents)) (Refuses TooManyDocuments) _ revision (λ e. cc) gap.1 in
      taken_anew state.limits [] empty (creation state command delta) revision docs.1
  fresh_anew (Edit base delta) revision h = cc
  fresh_anew Undo revision h = cc
  fresh_anew Delete revision h = cc

-- What is taken has its place, and is its source's next one.
pub takes_placed : (state : State) (command : Command) (taken : Taken) → 1 ≤ command.number → answer state command ≡ Takes taken
    → Placed (all_shown state) (entry_of command taken)
takes_placed state command taken some h = by_found (find command.name 0 state.documents) refl h
  where
    by_found : (there : Option (ℕ × DocumentRecord)) → find command.name 0 state.documents ≡ there
        → answer_to state command command.action there ≡ Takes taken → Placed (all_shown state) (entry_of command taken)
    by_found None is h = fresh_placed state command is command.action taken some h
    by_found (Some found) is h = found_placed state found.0 found.1 command is command.action taken some h

-- A retry has a number of its source's window, and tells the revision that this made.
pub repeats_made : (state : State) (command : Command) (revision : ℕ) → answer state command ≡ Repeats revision
    → revision_in command.number (window_in command.name command.source (all_shown state)) ≡ Some revision
repeats_made state command revision h = by_place (find command.name 0 state.documents) refl h
  where
    by_place : (there : Option (ℕ × DocumentRecord)) → find command.name 0 state.documents ≡ there
        → answer_to state command command.action there ≡ Repeats revision
        → revision_in command.number (window_in command.name command.source (all_shown state)) ≡ Some revision
    by_place None is h = absurd (fresh_anew state command is command.action revision h)
    by_place (Some found) is h =
        ap (revision_in command.number) (own_window state found.0 found.1 command is) ∙ found_repeats state found.0 found.1 command is command.action revision h

-- And a command of such a number is a retry.
pub made_repeats : (state : State) (command : Command) (revision : ℕ)
    → revision_in command.number (window_in command.name command.source (all_shown state)) ≡ Some revision
    → answer state command ≡ Repeats revision
made_repeats state command revision h = by_place (find command.name 0 state.documents) refl
  where
    none_made : (b : Bool) (place : ℕ) → cond b (slice_get [] place) None ≡ Some revision → ⊥
    none_made true place e = cc
    none_made false place e = cc

    by_place : (there : Option (ℕ × DocumentRecord)) → find command.name 0 state.documents ≡ there → answer_to state command command.action there ≡ Repeats revision
    by_place None is = absurd (none_made (nat_lt 0 (command.number + 0)) (command.number + 0 - 1) (sym (ap (revision_in command.number) (none_there state command is)) ∙ h))
    by_place (Some found) is = found_again state found.0 found.1 command is command.action revision (sym (ap (revision_in command.number) (own_window state found.0 found.1 command is)) ∙ h)
