-- What a document shows continues with each command that continues the document, and documents that show the same agree.
use Rattle.std.proofs.Common.{◌≡◌, ℕ, ◌+◌, ◌-◌, ◌≤◌, max, true, List, [], ◌∷◌, ◌++◌, length, Option, Some, None, length-append, refl, sym, ap, ◌∙◌, arith}
use Rattle.std.specs.Prelude.{◌&&◌, ◌==◌, not, nat_le}
use Rattle.std.proofs.lemmas.Bool.{and_parts, eqb-true}
use Rattle.revision.specs.Command.{Taken, edits}
use Rattle.revision.specs.declared.step.Step.{Step}
use Rattle.revision.specs.declared.step.Step.TheVariants.{Edits, Deletes, Revives}
use Rattle.revision.specs.Sources.{window_of, with_taken}
use Rattle.revision.specs.Past.{Past, Change, suits, content_after, newest, newest_content, newest_sources, content_at, sources_at, empty_past, from_floor, rebased, with_step}
use Rattle.revision.specs.Floors.{longer}
use Rattle.revision.specs.State.{Limits, DocumentRecord, revision_of, newest_revision, units_of, sources_of, is_live, last_of_all, has_place, keeps, comes_next, continues_by_name, continues, change_of, record_by_name, record_after, all_continue, record_after_all}
use Rattle.revision.specs.Agree.{DocumentsAgree, PlacesAgree}
use Rattle.revision.proofs.CallerLemmas.{from_itself, from_twice, from_newest, from_longer, step_makes}
use Rattle.history.specs.Shown.{longer_by, whole_by_name, whole_after, whole_of, Shows, PlacesShow}

pub newest-longer : (past : Past) (change : Change) → newest (longer past change) ≡ newest past + 1
newest-longer past change = omega (arith, length-append past.changes (change ∷ []))

pub revision-shown : (whole found : DocumentRecord) → Shows whole found → revision_of found ≡ revision_of whole
revision-shown whole found shows = ap newest shows.past ∙ from_newest whole.past found.past.floor shows.above shows.floor

-- a document shows itself
pub shows-itself : (found : DocumentRecord) → Shows found found
shows-itself found = record { name = refl; above = omega arith; floor = omega arith; past = sym (from_itself found.past) }

pub places-itself : (found : Option DocumentRecord) → PlacesShow found found
places-itself None = tt
places-itself (Some found) = shows-itself found

pub newest-shown : (whole found : Option DocumentRecord) → PlacesShow whole found → newest_revision found ≡ newest_revision whole
newest-shown None None shows = refl
newest-shown None (Some found) shows = absurd shows
newest-shown (Some whole) None shows = absurd shows
newest-shown (Some whole) (Some found) shows = revision-shown whole found shows

-- from a floor on that isn't below its own, a document is the whole one
pub from-shown : (whole found : DocumentRecord) (floor : ℕ) → Shows whole found → found.past.floor ≤ floor → from_floor found.past floor ≡ from_floor whole.past floor
from-shown whole found floor shows above =
    ap (λ (p : Past). from_floor p floor) shows.past ∙ from_twice whole.past found.past.floor floor shows.above above

-- one edit more
shows-edit : (keep : ℕ) (whole found : DocumentRecord) (change : Change) → Shows whole found
    → Shows (record whole { past = longer whole.past change }) (record found { past = with_step keep found.past Edits change })
shows-edit keep whole found change shows =
    let risen : ℕ = max found.past.floor (newest found.past + 1 - keep) in
    let number = revision-shown whole found shows in
    record {
      name = shows.name;
      above = omega (arith, shows.above);
      floor = omega (arith, shows.floor, number, newest-longer whole.past change);
      past = ap (λ (p : Past). from_floor (longer p change) risen) shows.past
          ∙ (ap (λ (p : Past). from_floor p risen) (from_longer whole.past found.past.floor change shows.above shows.floor)
          ∙ from_twice (longer whole.past change) found.past.floor risen shows.above (omega arith));
    }

-- a deletion or a creation again leaves the same of both
module _ (whole found : DocumentRecord) (step : Step) (change : Change) (shows : Shows whole found) where
  number : newest found.past ≡ newest whole.past
  number = revision-shown whole found shows

  there : from_floor found.past (newest found.past) ≡ from_floor whole.past (newest found.past)
  there = from-shown whole found (newest found.past) shows (omega arith)

  content_there : newest_content found.past ≡ newest_content whole.past
  content_there = ap (λ (p : Past). p.content) there ∙ ap (content_at whole.past) number

  sources_there : newest_sources found.past ≡ newest_sources whole.past
  sources_there = ap (λ (p : Past). p.sources) there ∙ ap (sources_at whole.past) number

  abbrev turned : Past → Past
  turned past = rebased past (content_after (newest_content past) step change.delta) change

  same_turned : turned found.past ≡ turned whole.past
  same_turned = λ i. record {
    floor = number i + 1;
    content = content_after (content_there i) step change.delta;
    sources = with_taken change.source change.number (number i + 1) (sources_there i);
    changes = [];
  }

  shows-turned : Shows (record whole { past = turned whole.past }) (record found { past = turned found.past })
  shows-turned = record {
    name = shows.name;
    above = omega (arith, number);
    floor = omega (arith, number);
    past = same_turned ∙ (sym (from_itself (turned whole.past)) ∙ ap (λ n. from_floor (turned whole.past) (n + 1)) (sym number));
  }

-- one step more
shows-more : (keep : ℕ) (whole found : DocumentRecord) (step : Step) (change : Change) → Shows whole found
    → Shows (record whole { past = longer_by whole.past step change }) (record found { past = with_step keep found.past step change })
shows-more keep whole found Edits change shows = shows-edit keep whole found change shows
shows-more keep whole found Deletes change shows = shows-turned whole found Deletes change shows
shows-more keep whole found Revives change shows = shows-turned whole found Revives change shows

pub record-more : (limits : Limits) (whole found : Option DocumentRecord) (taken : Taken) → PlacesShow whole found
    → continues limits found taken ≡ true → PlacesShow (whole_after whole taken) (record_after limits.keep found taken)
record-more limits whole found taken shows h = by_name whole found taken.name shows h
  where
    by_name : (whole found : Option DocumentRecord) (name : Option (List ℕ)) → PlacesShow whole found → continues_by_name limits found taken name ≡ true
        → PlacesShow (whole_by_name whole taken name) (record_by_name limits.keep found taken name)
    by_name None None None shows h = absurd (cc)
    by_name None None (Some name) shows h =
        shows-more limits.keep (record { name = name; past = empty_past }) (record { name = name; past = empty_past }) taken.step (change_of taken)
        (shows-itself (record { name = name; past = empty_past }))
    by_name None (Some found) name shows h = absurd shows
    by_name (Some whole) None name shows h = absurd shows
    by_name (Some whole) (Some found) None shows h = shows-more limits.keep whole found taken.step (change_of taken) shows
    by_name (Some whole) (Some found) (Some name) shows h = absurd (cc)

-- several commands more
pub record-all : (limits : Limits) (whole found : Option DocumentRecord) (commands : List Taken) → PlacesShow whole found
    → all_continue limits found commands ≡ true → PlacesShow (whole_of whole commands) (record_after_all limits.keep found commands)
record-all limits whole found [] shows h = shows
record-all limits whole found (first ∷ others) shows h =
    let parts = and_parts (continues limits found first) (all_continue limits (record_after limits.keep found first) others) h in
    record-all limits (whole_after whole first) (record_after limits.keep found first) others (record-more limits whole found first shows parts.0) parts.1

pub whole-append : (found : Option DocumentRecord) (first others : List Taken) → whole_of found (first ++ others) ≡ whole_of (whole_of found first) others
whole-append found [] others = refl
whole-append found (taken ∷ more) others = whole-append (whole_after found taken) more others

pub shows-agree : (whole a b : DocumentRecord) → Shows whole a → Shows whole b → DocumentsAgree a b
shows-agree whole a b first second =
    let number = revision-shown whole a first in
    let other = revision-shown whole b second in
    let same = number ∙ sym other in
    let there : from_floor a.past (revision_of a) ≡ from_floor b.past (revision_of b) =
    from-shown whole a (revision_of a) first (omega arith) ∙ (ap (from_floor whole.past) same ∙ sym (from-shown whole b (revision_of b) second (omega arith))) in
    record {
      name = first.name ∙ sym second.name;
      revision = same;
      content = ap (λ (p : Past). p.content) there;
      sources = ap (λ (p : Past). p.sources) there;
      past = λ floor over under within. from-shown whole a floor first over ∙ sym (from-shown whole b floor second under);
    }

pub records-agree : (whole a b : Option DocumentRecord) → PlacesShow whole a → PlacesShow whole b → PlacesAgree a b
records-agree None None None first second = tt
records-agree None None (Some b) first second = absurd second
records-agree None (Some a) b first second = absurd first
records-agree (Some whole) None b first second = absurd first
records-agree (Some whole) (Some a) None first second = absurd second
records-agree (Some whole) (Some a) (Some b) first second = shows-agree whole a b first second

-- the next command's revision is the next one
pub next-revision : (limits : Limits) (found : Option DocumentRecord) (taken : Taken) → continues limits found taken ≡ true → taken.revision ≡ newest_revision found + 1
next-revision limits found taken h = by_name found taken.name h
  where
    by_name : (found : Option DocumentRecord) (name : Option (List ℕ)) → continues_by_name limits found taken name ≡ true → taken.revision ≡ newest_revision found + 1
    by_name None None h = absurd (cc)
    by_name None (Some name) h =
        let last = and_parts (edits taken.step && (taken.revision == 1) && (taken.number == 1)) _ h in
        let numbers = and_parts (edits taken.step && (taken.revision == 1)) (taken.number == 1) last.0 in
        let first = and_parts (edits taken.step) (taken.revision == 1) numbers.0 in
        omega (arith, eqb-true _ _ first.1)
    by_name (Some found) None h =
        let kept = and_parts (suits (is_live found) taken.step && comes_next limits (revision_of found) (sources_of found) taken)
        (keeps limits (units_of found) (sources_of found) taken) h in
        let following = and_parts (suits (is_live found) taken.step) (comes_next limits (revision_of found) (sources_of found) taken) kept.0 in
        let place = and_parts ((taken.revision == revision_of found + 1) && not (revision_of found == last_of_all)
        && (taken.number == (window_of taken.source (sources_of found)).number + 1) && nat_le taken.number last_of_all)
        (has_place limits taken.source (sources_of found)) following.1 in
        let number = and_parts ((taken.revision == revision_of found + 1) && not (revision_of found == last_of_all)
        && (taken.number == (window_of taken.source (sources_of found)).number + 1)) _ place.0 in
        let next = and_parts ((taken.revision == revision_of found + 1) && not (revision_of found == last_of_all)) _ number.0 in
        let first = and_parts (taken.revision == revision_of found + 1) _ next.0 in
        eqb-true _ _ first.0
    by_name (Some found) (Some name) h = absurd (cc)

-- and the document has it then
pub newest-after : (limits : Limits) (found : Option DocumentRecord) (taken : Taken) → continues limits found taken ≡ true
    → newest_revision (record_after limits.keep found taken) ≡ newest_revision found + 1
newest-after limits found taken h = by_name found taken.name h
  where
    by_name : (found : Option DocumentRecord) (name : Option (List ℕ)) → continues_by_name limits found taken name ≡ true
        → newest_revision (record_by_name limits.keep found taken name) ≡ newest_revision found + 1
    by_name None None h = absurd (cc)
    by_name None (Some name) h = (step_makes limits.keep empty_past taken.step (change_of taken)).0
    by_name (Some found) None h = (step_makes limits.keep found.past taken.step (change_of taken)).0
    by_name (Some found) (Some name) h = absurd (cc)

pub newest-all : (limits : Limits) (found : Option DocumentRecord) (commands : List Taken) → all_continue limits found commands ≡ true
    → newest_revision (record_after_all limits.keep found commands) ≡ newest_revision found + length commands
newest-all limits found [] h = omega arith
newest-all limits found (first ∷ others) h =
    let parts = and_parts (continues limits found first) (all_continue limits (record_after limits.keep found first) others) h in
    omega (arith, newest-after limits found first parts.0, newest-all limits (record_after limits.keep found first) others parts.1)

-- a document with all its past reaches as far as its commands go
pub newest-whole : (limits : Limits) (found : Option DocumentRecord) (commands : List Taken) → all_continue limits found commands ≡ true
    → newest_revision (whole_of found commands) ≡ newest_revision found + length commands
newest-whole limits found commands h =
    sym (newest-shown (whole_of found commands) (record_after_all limits.keep found commands) (record-all limits found found commands (places-itself found) h))
    ∙ newest-all limits found commands h
