-- What each state is stays so, as commands continue it and as it adopts documents.
use Rattle.std.proofs.Common.{◌≡◌, ◌⊎◌, inl, inr, ℕ, zero, suc, ◌+◌, ◌≤◌, ◌<◌, ◌^◌, Bool, true, false, cond, List, [], ◌∷◌, ◌++◌, length, Option, Some, None, Less, Greater, Equal, refl, sym, ap, subst, ◌∙◌, ⊎_elim, length-append, true≢false, arith}
use Rattle.std.specs.Prelude.{◌&&◌, ◌||◌, ◌==◌, not, nat_lt, nat_le, is_none, is_some, bytes_eq, slice_get, unwrap_or}
use Rattle.std.specs.Cmp.Lexicographic.{nat_list_cmp_total}
use Rattle.std.specs.Ordering.{eq_by_cmp}
use Rattle.std.specs.FinMap.Entries.{find as entry_of, put, length-put, by_order}
use Rattle.std.proofs.lemmas.Bool.{and_parts, and_from, both_ways, not-true, ltb-true, ltb-false, leb-true, eqb-true, eqb-false, le-leb, lt-ltb, cases_lt}
use Rattle.std.proofs.lemmas.Option.{slice_get_within, same_Some}
use Rattle.std.proofs.lemmas.Slice.Eq.{bytes_eq-Decides}
use Rattle.attributes.specs.Map.{by_bytes, empty, insert, get}
use Rattle.delta.specs.Element.{Element}
use Rattle.delta.specs.Gaps.{counted, apply, units_below}
use Rattle.document.specs.Outcome.{IsAccepted}
use Rattle.document.specs.Places.{Cuts}
use Rattle.delta.specs.Operation.{Operation}
use Rattle.revision.specs.Command.{Taken, Step, Edits, Deletes, Revives, edits, width_of}
use Rattle.revision.specs.Window.{Window, nothing_taken, taken_as}
use Rattle.revision.specs.Sources.{Sources, window_of, count_of, with_taken}
use Rattle.revision.specs.Parting.{parts_pair}
use Rattle.revision.specs.Past.{StandInTurn, deltas_of, Content, is_content, suits, units_after, content_after, Change, Past, empty_past, newest, newest_content, newest_sources, content_at, sources_at, with_change, rebased, with_step}
use Rattle.revision.specs.State.{Limits, DocumentRecord, State, grows, grown, all_grow, fold, revision_of, units_of, sources_of, is_live, find, last_of_all, reaches_past, weight_of, weight_after, has_place, stands_on, stands, stays_light, keeps, comes_next, begins, follows, continues_by_name, change_of, record_by_name, record_after, has_room, set_document, is_window, is_mark_at, are_sources, adopts, record_at}
use Rattle.revision.specs.Invariants.{IsLimits, KeepsAt, IsPast, IsRecord, IsState, EmptyIsState, GrowingKeeps, AdoptingKeeps, ContinuingKeeps}
use Rattle.revision.proofs.Room.{weight-some}
use Rattle.revision.proofs.Told.{parts_told}
use Rattle.revision.proofs.Windows.{window-later, stays_window, first-window}
use Rattle.revision.proofs.Changing.{units-newest, sources-newest, newest-with_change, with_change-from, units-with_change, sources-with_change, content-before, sources-before, stand-with_change, count-with_change}

pub empty_is_state : EmptyIsState
empty_is_state limits is = record {
  limits = is;
  count = omega arith;
  names = λ i j a b here there same. absurd (cc);
  each = λ number found here. absurd (cc);
}

-- the parts of tests
four : (a b c d : Bool) → (a && b && c && d) ≡ true → (a ≡ true) × (b ≡ true) × (c ≡ true) × (d ≡ true)
four a b c d h =
    let last = and_parts (a && b && c) d h in
    let third = and_parts (a && b) c last.0 in
    let second = and_parts a b third.0 in
    (second.0, second.1, third.1, last.1)

pub six : (a b c d e f : Bool) → (a && b && c && d && e && f) ≡ true → (a ≡ true) × (b ≡ true) × (c ≡ true) × (d ≡ true) × (e ≡ true) × (f ≡ true)
six a b c d e f h =
    let last = and_parts (a && b && c && d && e) f h in
    let fifth = and_parts (a && b && c && d) e last.0 in
    let first = four a b c d fifth.0 in
    (first.0, first.1, first.2, first.3, fifth.1, last.1)

pub seven : (a b c d e f g : Bool) → (a && b && c && d && e && f && g) ≡ true
    → (a ≡ true) × (b ≡ true) × (c ≡ true) × (d ≡ true) × (e ≡ true) × (f ≡ true) × (g ≡ true)
seven a b c d e f g h =
    let last = and_parts (a && b && c && d && e && f) g h in
    let first = six a b c d e f last.0 in
    (first.0, first.1, first.2, first.3, first.4, first.5, last.1)

-- what sources have at a revision they may have at later ones
sources-later : (revision later : ℕ) (entries : List (List ℕ × Window)) → revision ≤ later → are_sources revision entries ≡ true → are_sources later entries ≡ true
sources-later revision later [] le h = refl
sources-later revision later (first ∷ others) le h =
    let parts = and_parts (is_window revision first.1) (are_sources revision others) h in
    and_from _ _ (window-later revision later first.1 le parts.0) (sources-later revision later others le parts.1)

sources-put : (revision : ℕ) (source : List ℕ) (window : Window) (entries : List (List ℕ × Window)) → is_window revision window ≡ true
    → are_sources revision entries ≡ true → are_sources revision (put by_bytes source window entries) ≡ true
sources-put revision source window [] is h = and_from _ _ is refl
sources-put revision source window (first ∷ others) is h =
    let parts = and_parts (is_window revision first.1) (are_sources revision others) h in
    elim (by_bytes source first.0) as (λ o. are_sources revision (by_order o ((source, window) ∷ first ∷ others) ((first.0, window) ∷ others) (first ∷ put by_bytes source window others)) ≡ true) [
      | Less ↦ and_from _ _ is h
      | Equal ↦ and_from _ _ is parts.1
      | Greater ↦ and_from _ _ parts.0 (sources-put revision source window others is parts.1)
    ]

-- a source that is found has what it may have
pub sources-found : (revision : ℕ) (source : List ℕ) (entries : List (List ℕ × Window)) (window : Window) → are_sources revision entries ≡ true
    → entry_of by_bytes source entries ≡ Some window → is_window revision window ≡ true
sources-found revision source [] window h is = absurd (cc)
sources-found revision source (first ∷ others) window h is =
    let parts = and_parts (is_window revision first.1) (are_sources revision others) h in
    elim (eq_by_cmp by_bytes source first.0) as (λ b. cond b (Some first.1) (entry_of by_bytes source others) ≡ Some window → is_window revision window ≡ true) [
      | true ↦ λ here. subst (λ w. is_window revision w ≡ true) (window_is first.1 window here) parts.0
      | false ↦ λ later. sources-found revision source others window parts.1 later
    ] is
  where
    window_is : (x y : Window) → Some x ≡ Some y → x ≡ y
    window_is x y h = ap (λ o. unwrap_or o x) h

-- what a source has once its next number was taken
noted-window : (revision later number : ℕ) (there : Option Window) → revision < later → number ≡ (unwrap_or there nothing_taken).number + 1 → number ≤ last_of_all
    → ((window : Window) → there ≡ Some window → is_window revision window ≡ true) → is_window later (taken_as number later (unwrap_or there nothing_taken)) ≡ true
noted-window revision later number None lt next bound sound =
    subst (λ n. is_window later (taken_as n later nothing_taken) ≡ true) (sym next) (first-window later (omega (arith, lt)))
noted-window revision later number (Some window) lt next bound sound =
    subst (λ n. is_window later (taken_as n later window) ≡ true) (sym next) (stays_window revision later window lt (omega (arith, next, bound)) (sound window refl))

sources-noted : (revision later number : ℕ) (source : List ℕ) (sources : Sources) → revision < later → number ≡ (window_of source sources).number + 1 → number ≤ last_of_all
    → are_sources revision sources.entries ≡ true → are_sources later (with_taken source number later sources).entries ≡ true
unfolding insert
sources-noted revision later number source sources lt next bound h =
    sources-put later source (taken_as number later (window_of source sources)) sources.entries
    (noted-window revision later number (get sources source) lt next bound (λ window is. sources-found revision source sources.entries window h is))
    (sources-later revision later sources.entries (omega (arith, lt)) h)

-- where a source has its place, there are no more sources than there may be with it noted
count-noted : (limits : Limits) (source : List ℕ) (number revision : ℕ) (sources : Sources) → has_place limits source sources ≡ true
    → count_of sources ≤ limits.sources → count_of (with_taken source number revision sources) ≤ limits.sources
unfolding insert
count-noted limits source number revision sources place held =
    let count = length-put by_bytes nat_list_cmp_total source (taken_as number revision (window_of source sources)) sources.entries sources.ascending in
    subst (λ n. n ≤ limits.sources) (sym count) (by_entry (get sources source) place)
  where
    by_entry : (there : Option Window) → (not ((unwrap_or there nothing_taken).number == 0) || nat_lt (count_of sources) limits.sources) ≡ true
        → cond (is_some there) (length sources.entries) (length sources.entries + 1) ≤ limits.sources
    by_entry None h = omega (arith, ltb-true (count_of sources) limits.sources h)
    by_entry (Some window) h = held

-- what a command keeps: its delta stands where it has to, and what it leaves is light
pub kept-light : (limits : Limits) (units : List Element) (sources : Sources) (taken : Taken) → keeps limits units sources taken ≡ true
    → (stands taken.step taken.delta units ≡ true) × (weight_after limits units sources taken ≤ limits.weight)
kept-light limits units sources taken h =
    let first = and_parts (stays_light limits units sources taken) (nat_le (width_of taken) limits.width) h in
    let light = and_parts (stands taken.step taken.delta units) (nat_le (weight_after limits units sources taken) limits.weight) first.0 in
    (light.0, leb-true _ _ light.1)

-- a delta that stands on units is accepted where what it leaves is short
pub stands-accepted : (delta : List Operation) (units : List Element) → stands_on delta units ≡ true → length (apply units (counted delta)) ≤ 2 ^ 29
    → IsAccepted units (counted delta)
stands-accepted delta units h short =
    let parts = and_parts (not (reaches_past delta units)) (not (parts_pair delta units)) h in
    let there : units_below (counted delta) ≤ length units = ltb-false _ _ (not-true _ parts.0) in
    let whole : ¬ (Cuts units (counted delta)) =
    λ cut. both_ways (parts_pair delta units) (not-true _ parts.1) ((parts_told delta units).1 cut) in
    (there, whole, omega (arith, short))

-- an edit that keeps the limits is accepted
pub kept-accepted : (limits : Limits) (units : List Element) (sources : Sources) (taken : Taken) → IsLimits limits → taken.step ≡ Edits
    → keeps limits units sources taken ≡ true
    → IsAccepted units (counted taken.delta)
    × (weight_of limits (apply units (counted taken.delta)) (with_taken taken.source taken.number taken.revision sources) ≤ limits.weight)
kept-accepted limits units sources taken is edit h =
    let kept = kept-light limits units sources taken h in
    let stand : stands_on taken.delta units ≡ true = subst (λ st. stands st taken.delta units ≡ true) edit kept.0 in
    let light : weight_of limits (apply units (counted taken.delta)) (with_taken taken.source taken.number taken.revision sources) ≤ limits.weight =
    subst (λ st. weight_of limits (units_after units st taken.delta) (with_taken taken.source taken.number taken.revision sources) ≤ limits.weight) edit kept.1 in
    (stands-accepted taken.delta units stand (omega (arith, light, is.weight, weight-some (apply units (counted taken.delta)))), light)

pub edits-is : (step : Step) → edits step ≡ true → step ≡ Edits
edits-is Edits h = refl
edits-is Deletes h = absurd (true≢false (sym h))
edits-is Revives h = absurd (true≢false (sym h))

-- the parts of what makes a command the next one
pub next_parts : (limits : Limits) (revision : ℕ) (sources : Sources) (taken : Taken) → comes_next limits revision sources taken ≡ true
    → ((taken.revision == revision + 1) ≡ true) × (not (revision == last_of_all) ≡ true)
    × ((taken.number == (window_of taken.source sources).number + 1) ≡ true) × (nat_le taken.number last_of_all ≡ true)
    × (has_place limits taken.source sources ≡ true)
next_parts limits revision sources taken h =
    let last = and_parts ((taken.revision == revision + 1) && not (revision == last_of_all)
    && (taken.number == (window_of taken.source sources).number + 1) && nat_le taken.number last_of_all) (has_place limits taken.source sources) h in
    let first = four (taken.revision == revision + 1) (not (revision == last_of_all)) (taken.number == (window_of taken.source sources).number + 1)
    (nat_le taken.number last_of_all) last.0 in
    (first.0, first.1, first.2, first.3, last.1)

-- what is kept at a revision comes of what is held there
pub keeps-same : (limits : Limits) (a b : Past) (revision : ℕ) → content_at b revision ≡ content_at a revision → sources_at b revision ≡ sources_at a revision
    → KeepsAt limits a revision → KeepsAt limits b revision
keeps-same limits a b revision content sources kept = record {
  weight = subst (λ (c : Content). weight_of limits c.units (sources_at b revision) ≤ limits.weight) (sym content)
      (subst (λ s. weight_of limits (content_at a revision).units s ≤ limits.weight) (sym sources) kept.weight);
  count = subst (λ s. count_of s ≤ limits.sources) (sym sources) kept.count;
  sources = subst (λ (s : Sources). are_sources revision s.entries ≡ true) (sym sources) kept.sources;
  content = subst (λ (c : Content). is_content c ≡ true) (sym content) kept.content;
  mark = subst (λ (c : Content). is_mark_at c.live revision ≡ true) (sym content) kept.mark;
}

-- An edit of a live document that keeps the limits, with its source's next number, makes of a past one that keeps them.
module _ (limits : Limits) (past : Past) (taken : Taken) (is : IsLimits limits)
    (stand : StandInTurn past.content.units (deltas_of past))
    (count : length past.changes ≤ limits.keep) (last : newest past + 1 ≤ last_of_all)
    (each : (revision : ℕ) → past.floor ≤ revision → revision ≤ newest past → KeepsAt limits past revision)
    (next : taken.revision ≡ newest past + 1) (following : taken.number ≡ (window_of taken.source (sources_at past (newest past))).number + 1)
    (bound : taken.number ≤ last_of_all)
    (place : has_place limits taken.source (sources_at past (newest past)) ≡ true)
    (edit : taken.step ≡ Edits) (live : past.content.live ≡ true)
    (kept : keeps limits (content_at past (newest past)).units (sources_at past (newest past)) taken ≡ true) where
  change : Change
  change = change_of taken

  keeps-newest : KeepsAt limits (with_change limits.keep past (change_of taken)) (newest past + 1)
  keeps-newest =
      let here = each (newest past) (omega arith) (omega arith) in
      let units = units-with_change past (change_of taken) limits.keep in
      let sources = sources-with_change past (change_of taken) limits.keep in
      let before = sources_at past (newest past) in
      let light = (kept-accepted limits (content_at past (newest past)).units before taken is edit kept).1 in
      let weight : weight_of limits (apply (content_at past (newest past)).units (counted taken.delta)) (with_taken taken.source taken.number (newest past + 1) before) ≤ limits.weight =
      subst (λ r. weight_of limits (apply (content_at past (newest past)).units (counted taken.delta)) (with_taken taken.source taken.number r before) ≤ limits.weight) next light in
      record {
        weight = subst (λ u. weight_of limits u (sources_at (with_change limits.keep past (change_of taken)) (newest past + 1)) ≤ limits.weight) (sym units)
            (subst (λ s. weight_of limits (apply (content_at past (newest past)).units (counted taken.delta)) s ≤ limits.weight) (sym sources) weight);
        count = subst (λ s. count_of s ≤ limits.sources) (sym sources) (count-noted limits taken.source taken.number (newest past + 1) before place here.count);
        sources = subst (λ (s : Sources). are_sources (newest past + 1) s.entries ≡ true) (sym sources)
            (sources-noted (newest past) (newest past + 1) taken.number taken.source before (omega arith) following bound here.sources);
        content = ap (λ b. b || (length (content_at (with_change limits.keep past (change_of taken)) (newest past + 1)).units == 0)) live;
        mark = ap (λ b. b || nat_le 2 (newest past + 1)) live;
      }

  keeps-each : (revision : ℕ) → (with_change limits.keep past (change_of taken)).floor ≤ revision → revision ≤ newest (with_change limits.keep past (change_of taken))
      → KeepsAt limits (with_change limits.keep past (change_of taken)) revision
  keeps-each revision risen there =
      let from = with_change-from past (change_of taken) limits.keep revision risen in
      let number = newest-with_change past (change_of taken) limits.keep in
      ⊎_elim
      (λ (below : revision < newest past + 1).
      let held : revision ≤ newest past = omega (arith, below) in
      let above : past.floor ≤ revision = omega (arith, risen) in
      keeps-same limits past (with_change limits.keep past (change_of taken)) revision
      (ap (λ (p : Past). p.content) from ∙ content-before past (change_of taken) revision above held)
      (ap (λ (p : Past). p.sources) from ∙ sources-before past (change_of taken) revision above held)
      (each revision above held))
      (λ (top : newest past + 1 ≤ revision).
      let newest_one : newest past + 1 ≡ revision = omega (arith, top, there, number) in
      subst (KeepsAt limits (with_change limits.keep past (change_of taken))) newest_one keeps-newest)
      (cases_lt revision (newest past + 1))

  past-after : IsPast limits (with_change limits.keep past (change_of taken))
  past-after =
      let number = newest-with_change past (change_of taken) limits.keep in
      record {
        stand = stand-with_change past (change_of taken) limits.keep stand (kept-accepted limits (content_at past (newest past)).units (sources_at past (newest past)) taken is edit kept).0;
        count = count-with_change past (change_of taken) limits.keep is.some_revision count;
        first = omega (arith, number);
        last = omega (arith, number, last);
        each = keeps-each;
      }

-- a document that is adopted keeps the limits
adopted-past : (limits : Limits) (content : Content) (revision : ℕ) (sources : Sources) → is_content content ≡ true → is_mark_at content.live revision ≡ true → 1 ≤ revision → revision ≤ last_of_all
    → count_of sources ≤ limits.sources → are_sources revision sources.entries ≡ true → weight_of limits content.units sources ≤ limits.weight
    → IsPast limits (record { floor = revision; content = content; sources = sources; changes = [] })
adopted-past limits content revision sources may mark some bound count are light =
    let past : Past = record { floor = revision; content = content; sources = sources; changes = [] } in
    let none : newest past ≡ revision = omega arith in
    let here : KeepsAt limits past (newest past) = record {
      weight = subst (λ u. weight_of limits u (sources_at past (newest past)) ≤ limits.weight) (sym (units-newest past))
          (subst (λ s. weight_of limits content.units s ≤ limits.weight) (sym (sources-newest past)) light);
      count = subst (λ s. count_of s ≤ limits.sources) (sym (sources-newest past)) count;
      sources = subst (λ (s : Sources). are_sources (newest past) s.entries ≡ true) (sym (sources-newest past)) (sources-later revision (newest past) sources.entries (omega arith) are);
      content = subst (λ u. is_content (record { units = u; live = content.live }) ≡ true) (sym (units-newest past)) may;
      mark = subst (λ r. is_mark_at content.live r ≡ true) (sym none) mark;
    } in
    record {
      stand = tt;
      count = omega arith;
      first = omega (arith, some);
      last = omega (arith, bound);
      each = λ place above there. subst (KeepsAt limits past) (omega (arith, above, there)) here;
    }

-- the past that a creation makes
begun-past : (limits : Limits) (taken : Taken) → IsLimits limits → begins limits taken ≡ true
    → IsPast limits (with_step limits.keep empty_past taken.step (change_of taken))
begun-past limits taken is h =
    let parts = four (edits taken.step) (taken.revision == 1) (taken.number == 1) (keeps limits [] empty taken) h in
    let one : taken.number ≡ 1 = eqb-true _ _ parts.2 in
    let edit : taken.step ≡ Edits = edits-is taken.step parts.0 in
    subst (λ st. IsPast limits (with_step limits.keep empty_past st (change_of taken))) (sym edit)
    (past-after limits empty_past taken is tt (omega (arith, is.some_revision)) (omega arith) nothing (eqb-true _ _ parts.1) (omega (arith, one)) (omega (arith, one))
    (free limits is) edit refl parts.3)
  where
    nothing : (revision : ℕ) → 0 ≤ revision → revision ≤ newest empty_past → KeepsAt limits empty_past revision
    nothing zero above there = record { weight = omega arith; count = omega arith; sources = refl; content = refl; mark = refl }
    nothing (suc revision) above there = absurd (omega (arith, there))

    free : (limits : Limits) → IsLimits limits → has_place limits taken.source (sources_at empty_past (newest empty_past)) ≡ true
    free limits is = lt-ltb 0 limits.sources (omega (arith, is.some_source))

-- from revision 2 on a document may be deleted
is_later : (live : Bool) (revision : ℕ) → 2 ≤ revision → is_mark_at live revision ≡ true
is_later true revision le = refl
is_later false revision le = le-leb 2 revision le

-- the past that a deletion or a creation again makes
turned-past : (limits : Limits) (past : Past) (taken : Taken) (content : Content) → IsPast limits past
    → comes_next limits (newest past) (newest_sources past) taken ≡ true → newest past + 1 ≤ last_of_all → is_content content ≡ true
    → weight_of limits content.units (with_taken taken.source taken.number taken.revision (newest_sources past)) ≤ limits.weight
    → IsPast limits (rebased past content (change_of taken))
turned-past limits past taken content is next bound may light =
    let parts = next_parts limits (newest past) (newest_sources past) taken next in
    let here = is.each (newest past) (omega arith) (omega arith) in
    let revision : taken.revision ≡ newest past + 1 = eqb-true _ _ parts.0 in
    let number : taken.number ≡ (window_of taken.source (newest_sources past)).number + 1 = eqb-true _ _ parts.2 in
    let later : is_mark_at content.live (newest past + 1) ≡ true = is_later content.live (newest past + 1) (omega (arith, is.first)) in
    adopted-past limits content (newest past + 1) (with_taken taken.source taken.number (newest past + 1) (newest_sources past)) may later (omega arith) bound
    (count-noted limits taken.source taken.number (newest past + 1) (newest_sources past) parts.4 here.count)
    (sources-noted (newest past) (newest past + 1) taken.number taken.source (newest_sources past) (omega arith) number (leb-true _ _ parts.3) here.sources)
    (subst (λ r. weight_of limits content.units (with_taken taken.source taken.number r (newest_sources past)) ≤ limits.weight) revision light)

below : (revision : ℕ) → revision ≤ last_of_all → (revision == last_of_all) ≡ false → revision + 1 ≤ last_of_all
below revision le other = ⊎_elim (λ (h : revision < last_of_all). omega (arith, h)) (λ (h : last_of_all ≤ revision). absurd (eqb-false revision last_of_all other (omega (arith, le, h))))
    (cases_lt revision last_of_all)

followed-past : (limits : Limits) (found : DocumentRecord) (taken : Taken) → IsLimits limits → IsPast limits found.past → follows limits found taken ≡ true
    → IsPast limits (with_step limits.keep found.past taken.step (change_of taken))
followed-past limits found taken is past h = by_step taken.step refl where
  all : (suits (is_live found) taken.step && comes_next limits (revision_of found) (sources_of found) taken ≡ true)
      × (keeps limits (units_of found) (sources_of found) taken ≡ true)
  all = and_parts (suits (is_live found) taken.step && comes_next limits (revision_of found) (sources_of found) taken)
      (keeps limits (units_of found) (sources_of found) taken) h

  first : (suits (is_live found) taken.step ≡ true) × (comes_next limits (revision_of found) (sources_of found) taken ≡ true)
  first = and_parts (suits (is_live found) taken.step) (comes_next limits (revision_of found) (sources_of found) taken) all.0

  parts : ((taken.revision == revision_of found + 1) ≡ true) × (not (revision_of found == last_of_all) ≡ true)
      × ((taken.number == (window_of taken.source (sources_of found)).number + 1) ≡ true) × (nat_le taken.number last_of_all ≡ true)
      × (has_place limits taken.source (sources_of found) ≡ true)
  parts = next_parts limits (revision_of found) (sources_of found) taken first.1

  bound : revision_of found + 1 ≤ last_of_all
  bound = below (revision_of found) past.last (not-true _ parts.1)

  light : (step : Step) → taken.step ≡ step
      → weight_of limits (units_after (units_of found) step taken.delta) (with_taken taken.source taken.number taken.revision (sources_of found)) ≤ limits.weight
  light step e =
      subst (λ st. weight_of limits (units_after (units_of found) st taken.delta) (with_taken taken.source taken.number taken.revision (sources_of found)) ≤ limits.weight)
      e (kept-light limits (units_of found) (sources_of found) taken all.1).1

  by_step : (step : Step) → taken.step ≡ step → IsPast limits (with_step limits.keep found.past step (change_of taken))
  by_step Edits e =
      past-after limits found.past taken is past.stand past.count bound past.each (eqb-true _ _ parts.0)
      (eqb-true _ _ parts.2) (leb-true _ _ parts.3) parts.4 e (subst (λ st. suits (is_live found) st ≡ true) e first.0) all.1
  by_step Deletes e =
      turned-past limits found.past taken (content_after (newest_content found.past) Deletes taken.delta) past first.1 bound refl (light Deletes e)
  by_step Revives e =
      turned-past limits found.past taken (content_after (newest_content found.past) Revives taken.delta) past first.1 bound refl (light Revives e)

set-at : (number : ℕ) (new : DocumentRecord) (documents : List DocumentRecord) (i : ℕ) (a : DocumentRecord)
    → slice_get (set_document number (Some new) documents) i ≡ Some a → ((i ≡ number) × (new ≡ a)) ⊎ (slice_get documents i ≡ Some a)
set-at zero new [] zero a h = inl (refl, same_Some new a h)
set-at zero new [] (suc i) a h = absurd (cc)
set-at (suc number) new [] i a h = absurd (cc)
set-at zero new (first ∷ others) zero a h = inl (refl, same_Some new a h)
set-at zero new (first ∷ others) (suc i) a h = inr h
set-at (suc number) new (first ∷ others) zero a h = inr h
set-at (suc number) new (first ∷ others) (suc i) a h =
    ⊎_elim (λ there. inl (ap suc there.0, there.1)) (λ other. inr other) (set-at number new others i a h)

pub length-set : (number : ℕ) (new : DocumentRecord) (documents : List DocumentRecord) → number < length documents
    → length (set_document number (Some new) documents) ≡ length documents
length-set number new [] lt = absurd (omega (arith, lt))
length-set zero new (first ∷ others) lt = refl
length-set (suc number) new (first ∷ others) lt = ap suc (length-set number new others (omega (arith, lt)))

pub set-end : (new : DocumentRecord) (documents : List DocumentRecord) → set_document (length documents) (Some new) documents ≡ documents ++ new ∷ []
set-end new [] = refl
set-end new (first ∷ others) = ap (λ l. first ∷ l) (set-end new others)

-- a name that isn't found is no document's
abbrev IsUnnamed : List ℕ → List DocumentRecord → Type 0
IsUnnamed name documents = (i : ℕ) (a : DocumentRecord) → slice_get documents i ≡ Some a → a.name ≡ name → ⊥

unnamed-more : (name : List ℕ) (first : DocumentRecord) (others : List DocumentRecord) → bytes_eq first.name name ≡ false → IsUnnamed name others
    → IsUnnamed name (first ∷ others)
unnamed-more name first others other later zero a here same =
    both_ways (bytes_eq first.name name) other ((bytes_eq-Decides first.name name).1 (ap (λ (d : DocumentRecord). d.name) (same_Some first a here) ∙ same))
unnamed-more name first others other later (suc i) a here same = later i a here same

unnamed : (name : List ℕ) (number : ℕ) (documents : List DocumentRecord) → is_none (find name number documents) ≡ true → IsUnnamed name documents
unnamed name number [] none = λ i a here same. absurd (cc)
unnamed name number (first ∷ others) none = by_test (bytes_eq first.name name) refl none (λ later. unnamed name (number + 1) others later)
  where
    by_test : (b : Bool) → bytes_eq first.name name ≡ b → is_none (cond b (Some (number, first)) (find name (number + 1) others)) ≡ true
        → (is_none (find name (number + 1) others) ≡ true → IsUnnamed name others) → IsUnnamed name (first ∷ others)
    by_test true is none further = absurd (cc)
    by_test false is none further = unnamed-more name first others is (further none)

-- a document of a new name is added
pub added-is-state : (state : State) (new : DocumentRecord) → IsState state → length state.documents < state.limits.docs
    → is_none (find new.name 0 state.documents) ≡ true → IsPast state.limits new.past
    → IsState (record state { documents = set_document (length state.documents) (Some new) state.documents })
added-is-state state new is room fresh past = record {
  limits = is.limits;
  count = omega (arith, room, ap length (set-end new state.documents), length-append state.documents (new ∷ []));
  names = λ i j a b here there same.
      ⊎_elim
      (λ new_here. ⊎_elim
      (λ new_there. new_here.0 ∙ sym new_there.0)
      (λ old_there. absurd (unnamed new.name 0 state.documents fresh j b old_there (sym same ∙ ap (λ (d : DocumentRecord). d.name) (sym new_here.1))))
      (set-at (length state.documents) new state.documents j b there))
      (λ old_here. ⊎_elim
      (λ new_there. absurd (unnamed new.name 0 state.documents fresh i a old_here (same ∙ ap (λ (d : DocumentRecord). d.name) (sym new_there.1))))
      (λ old_there. is.names i j a b old_here old_there same)
      (set-at (length state.documents) new state.documents j b there))
      (set-at (length state.documents) new state.documents i a here);
  each = λ number found here. ⊎_elim
      (λ new_here. subst (λ (d : DocumentRecord). IsPast state.limits d.past) new_here.1 past)
      (λ old_here. is.each number found old_here)
      (set-at (length state.documents) new state.documents number found here);
}

-- a document that is there is set to one of its name
changed-is-state : (state : State) (number : ℕ) (old new : DocumentRecord) → IsState state → slice_get state.documents number ≡ Some old → new.name ≡ old.name
    → IsPast state.limits new.past → IsState (record state { documents = set_document number (Some new) state.documents })
changed-is-state state number old new is there name past = record {
  limits = is.limits;
  count = omega (arith, is.count, length-set number new state.documents (slice_get_within state.documents number old there));
  names = λ i j a b here other same.
      let name_of = λ (d : DocumentRecord). d.name in
      ⊎_elim
      (λ new_here. ⊎_elim
      (λ new_there. new_here.0 ∙ sym new_there.0)
      (λ old_there. new_here.0 ∙ is.names number j old b there old_there (sym name ∙ (ap name_of new_here.1 ∙ same)))
      (set-at number new state.documents j b other))
      (λ old_here. ⊎_elim
      (λ new_there. is.names i number a old old_here there (same ∙ (ap name_of (sym new_there.1) ∙ name)) ∙ sym new_there.0)
      (λ old_there. is.names i j a b old_here old_there same)
      (set-at number new state.documents j b other))
      (set-at number new state.documents i a here);
  each = λ place found here. ⊎_elim
      (λ new_here. subst (λ (d : DocumentRecord). IsPast state.limits d.past) new_here.1 past)
      (λ old_here. is.each place found old_here)
      (set-at number new state.documents place found here);
}

pub growing_keeps : GrowingKeeps
growing_keeps state taken is h =
    let parts = and_parts (has_room state taken.document taken.name) _ h in
    by_kind (slice_get state.documents taken.document) taken.name refl parts.0 parts.1
  where
    by_kind : (found : Option DocumentRecord) (name : Option (List ℕ)) → slice_get state.documents taken.document ≡ found → has_room state taken.document name ≡ true
        → continues_by_name state.limits found taken name ≡ true
        → IsState (record state { documents = set_document taken.document (record_by_name state.limits.keep found taken name) state.documents })
    by_kind None None there room next = absurd (cc)
    by_kind (Some found) (Some name) there room next = absurd (cc)
    by_kind (Some found) None there room next =
        changed-is-state state taken.document found (record found { past = with_step state.limits.keep found.past taken.step (change_of taken) }) is there refl
        (followed-past state.limits found taken is.limits (is.each taken.document found there) next)
    by_kind None (Some name) there room next =
        let fresh = and_parts ((taken.document == length state.documents) && nat_lt (length state.documents) state.limits.docs) (is_none (find name 0 state.documents)) room in
        let place = and_parts (taken.document == length state.documents) (nat_lt (length state.documents) state.limits.docs) fresh.0 in
        let new : DocumentRecord = record { name = name; past = with_step state.limits.keep empty_past taken.step (change_of taken) } in
        subst (λ n. IsState (record state { documents = set_document n (Some new) state.documents })) (sym (eqb-true _ _ place.0))
        (added-is-state state new is (ltb-true _ _ place.1) fresh.1 (begun-past state.limits taken is.limits next))

-- one that may be adopted is light
pub adopted-light : (state : State) (name : List ℕ) (content : Content) (revision : ℕ) (sources : Sources) → adopts state name content revision sources ≡ true
    → weight_of state.limits content.units sources ≤ state.limits.weight
adopted-light state name content revision sources h = leb-true _ _ (and_parts _ _ h).1

-- and nothing stands in it where it is deleted
pub adopted-content : (state : State) (name : List ℕ) (content : Content) (revision : ℕ) (sources : Sources) → adopts state name content revision sources ≡ true
    → is_content content ≡ true
adopted-content state name content revision sources h =
    let light = and_parts _ _ h in
    let last = and_parts _ _ light.0 in
    (seven (nat_lt (length state.documents) state.limits.docs) (is_none (find name 0 state.documents)) (is_content content) (is_mark_at content.live revision) (nat_le 1 revision)
    (nat_le revision last_of_all) (nat_le (count_of sources) state.limits.sources) last.0).2

-- and its name is new
pub adopted-fresh : (state : State) (name : List ℕ) (content : Content) (revision : ℕ) (sources : Sources) → adopts state name content revision sources ≡ true
    → is_none (find name 0 state.documents) ≡ true
adopted-fresh state name content revision sources h =
    let light = and_parts _ _ h in
    let last = and_parts _ _ light.0 in
    (seven (nat_lt (length state.documents) state.limits.docs) (is_none (find name 0 state.documents)) (is_content content) (is_mark_at content.live revision) (nat_le 1 revision)
    (nat_le revision last_of_all) (nat_le (count_of sources) state.limits.sources) last.0).1

pub adopting_keeps : AdoptingKeeps
adopting_keeps state name content revision sources is h =
    let light = and_parts (nat_lt (length state.documents) state.limits.docs && is_none (find name 0 state.documents) && is_content content && is_mark_at content.live revision && nat_le 1 revision
    && nat_le revision last_of_all && nat_le (count_of sources) state.limits.sources && are_sources revision sources.entries)
    (nat_le (weight_of state.limits content.units sources) state.limits.weight) h in
    let last = and_parts (nat_lt (length state.documents) state.limits.docs && is_none (find name 0 state.documents) && is_content content && is_mark_at content.live revision && nat_le 1 revision
    && nat_le revision last_of_all && nat_le (count_of sources) state.limits.sources) (are_sources revision sources.entries) light.0 in
    let parts = seven (nat_lt (length state.documents) state.limits.docs) (is_none (find name 0 state.documents)) (is_content content) (is_mark_at content.live revision) (nat_le 1 revision)
    (nat_le revision last_of_all) (nat_le (count_of sources) state.limits.sources) last.0 in
    let new : DocumentRecord = record_at name content revision sources in
    subst (λ l. IsState (record state { documents = l })) (set-end new state.documents)
    (added-is-state state new is (ltb-true _ _ parts.0) parts.1
    (adopted-past state.limits content revision sources parts.2 parts.3 (leb-true _ _ parts.4) (leb-true _ _ parts.5) (leb-true _ _ parts.6) last.1 (leb-true _ _ light.1)))

-- one document
record_kept : (limits : Limits) (found : Option DocumentRecord) (taken : Taken) (name : Option (List ℕ)) → IsLimits limits → IsRecord limits found
    → continues_by_name limits found taken name ≡ true → IsRecord limits (record_by_name limits.keep found taken name)
record_kept limits None taken None is past h = tt
record_kept limits None taken (Some name) is past h = begun-past limits taken is h
record_kept limits (Some found) taken None is past h = followed-past limits found taken is past h
record_kept limits (Some found) taken (Some name) is past h = absurd (cc)

pub continuing_keeps : ContinuingKeeps
continuing_keeps limits found [] is past h = past
continuing_keeps limits found (first ∷ others) is past h =
    let parts = and_parts (continues_by_name limits found first first.name) _ h in
    continuing_keeps limits (record_after limits.keep found first) others is (record_kept limits found first first.name is past parts.0) parts.1

-- all that grows of a state is one
pub all_keep : (state : State) (batch : List Taken) → IsState state → all_grow state batch ≡ true → IsState (fold state batch)
all_keep state [] is grow = is
all_keep state (first ∷ others) is grow =
    let parts = and_parts (grows state first) (all_grow (grown state first) others) grow in
    all_keep (grown state first) others (growing_keeps state first is parts.0) parts.1
