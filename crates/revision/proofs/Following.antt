-- What follows a document with the changes that are prepared.
use Rattle.std.proofs.Common.{◌≡◌, ℕ, ◌+◌, ◌≤◌, ◌^◌, Bool, true, false, List, [], ◌∷◌, ◌++◌, length, Option, Some, None, refl, sym, ap, ap₂, subst, ◌∙◌, true≢false, arith}
use Rattle.std.specs.Prelude.{◌&&◌, ◌==◌, nat_le}
use Rattle.std.proofs.lemmas.Bool.{and_parts, eqb-true, le-leb, lt-ltb}
use Rattle.std.proofs.lemmas.List.{length-map, map-append}
use Rattle.attributes.specs.Map.{empty}
use Rattle.delta.specs.Element.{Element}
use Rattle.revision.specs.Command.{Taken, Step, Edits, Deletes, Revives, edits}
use Rattle.revision.specs.Sources.{Sources, Table, with_taken}
use Rattle.revision.specs.Past.{Past, Content, Prepared, Change, Next, suits, units_after, content_after, content_after_all, changes_in, empty_past, newest, newest_content, newest_sources, sources_after, sources_at, content_at, with_step, with_steps, prepared_content, prepared_units, prepared_revision}
use Rattle.revision.specs.State.{Limits, DocumentRecord, revision_of, content_of, sources_of, last_of_all, has_place, stands, keeps, comes_next, begins, follows}
use Rattle.revision.specs.Invariants.{IsLimits}
use Rattle.revision.specs.Pending.{PendingDocument, with_prepared, prepared_sources, AreNextUnits, ComesOf}
use Rattle.revision.proofs.Room.{weight-some}
use Rattle.revision.proofs.Keeping.{next_parts, kept-light}
use Rattle.revision.proofs.Changing.{sources-more, step_makes}

-- the past with several steps more
pub newest-with_steps : (keep : ℕ) (past : Past) (next : List Next) → newest (with_steps keep past next) ≡ newest past + length next
newest-with_steps keep past [] = omega arith
newest-with_steps keep past (first ∷ others) =
    omega (arith, newest-with_steps keep (with_step keep past first.step first.change) others, (step_makes keep past first.step first.change).0)

content-one : (keep : ℕ) (past : Past) (step : Step) (change : Change)
    → newest_content (with_step keep past step change) ≡ content_after (newest_content past) step change.delta
content-one keep past step change =
    let makes = step_makes keep past step change in
    ap (content_at (with_step keep past step change)) makes.0 ∙ makes.1

sources-one : (keep : ℕ) (past : Past) (step : Step) (change : Change)
    → newest_sources (with_step keep past step change) ≡ with_taken change.source change.number (newest past + 1) (newest_sources past)
sources-one keep past step change =
    let makes = step_makes keep past step change in
    ap (sources_at (with_step keep past step change)) makes.0 ∙ makes.2

pub content-with_steps : (keep : ℕ) (past : Past) (next : List Next) → newest_content (with_steps keep past next) ≡ content_after_all (newest_content past) next
content-with_steps keep past [] = refl
content-with_steps keep past (first ∷ others) =
    content-with_steps keep (with_step keep past first.step first.change) others
    ∙ ap (λ (c : Content). content_after_all c others) (content-one keep past first.step first.change)

pub sources-with_steps : (keep : ℕ) (past : Past) (next : List Next)
    → newest_sources (with_steps keep past next) ≡ sources_after (newest past) (newest_sources past) (changes_in next)
sources-with_steps keep past [] = refl
sources-with_steps keep past (first ∷ others) =
    sources-with_steps keep (with_step keep past first.step first.change) others
    ∙ ap₂ (λ n s. sources_after n s (changes_in others)) (step_makes keep past first.step first.change).0 (sources-one keep past first.step first.change)

content-after-more : (content : Content) (next : List Next) (last : Next)
    → content_after_all content (next ++ last ∷ []) ≡ content_after (content_after_all content next) last.step last.change.delta
content-after-more content [] last = refl
content-after-more content (first ∷ others) last = content-after-more (content_after content first.step first.change.delta) others last

-- one step more is prepared
module _ (prepared : Prepared) (last : Next) where
  pub content-more : prepared_content (record prepared { next = prepared.next ++ last ∷ [] })
      ≡ content_after (prepared_content prepared) last.step last.change.delta
  content-more = content-after-more (newest_content prepared.past) prepared.next last

  pub sources-prepared : prepared_sources (record prepared { next = prepared.next ++ last ∷ [] })
      ≡ with_taken last.change.source last.change.number (prepared_revision prepared + 1) (prepared_sources prepared)
  sources-prepared =
      ap (sources_after (newest prepared.past) (newest_sources prepared.past)) (map-append (λ (one : Next). one.change) prepared.next (last ∷ []))
      ∙ sources-more (newest prepared.past) (prepared_revision prepared) (newest_sources prepared.past) (changes_in prepared.next) last.change
      (omega (arith, length-map prepared.next (λ (one : Next). one.change)))

-- a command follows the document with what is prepared
pub follows_prepared : (limits : Limits) (d : PendingDocument) (taken : Taken)
    → follows limits (with_prepared limits.keep d) taken
    ≡ (suits (prepared_content d.past).live taken.step && comes_next limits (prepared_revision d.past) (prepared_sources d.past) taken
    && keeps limits (prepared_units d.past) (prepared_sources d.past) taken)
follows_prepared limits d taken =
    let found : DocumentRecord = with_prepared limits.keep d in
    let revision : revision_of found ≡ prepared_revision d.past = newest-with_steps limits.keep d.past.past d.past.next in
    let content : content_of found ≡ prepared_content d.past = content-with_steps limits.keep d.past.past d.past.next in
    let sources : sources_of found ≡ prepared_sources d.past = sources-with_steps limits.keep d.past.past d.past.next in
    ap₂ ◌&&◌ (ap₂ ◌&&◌ (ap (λ (c : Content). suits c.live taken.step) content) (ap₂ (λ r s. comes_next limits r s taken) revision sources))
    (ap₂ (λ (c : Content) s. keeps limits c.units s taken) content sources)

-- what is kept beside a past whose steps are accepted
pub accepted_comes : (keep : ℕ) (past : Prepared) (units : List Element) (sources : Sources) → units ≡ prepared_units past → sources ≡ prepared_sources past
    → ComesOf (record { past = with_steps keep past.past past.next; next = [] }) units None (record { accepted = sources; prepared = sources })
accepted_comes keep past units sources units_are sources_are = record {
  newest = units_are ∙ sym (ap (λ (c : Content). c.units) (content-with_steps keep past.past past.next));
  after = refl;
  held = sources_are ∙ sym (sources-with_steps keep past.past past.next);
  prepared = sources_are ∙ sym (sources-with_steps keep past.past past.next);
}

-- what is kept beside a past with one step more prepared
pub prepared_comes : (past : Prepared) (units after : List Element) (next : Option (List Element)) (sources : Table) (one : Next) (revision : ℕ)
    → ComesOf past units next sources → after ≡ units_after (prepared_units past) one.step one.change.delta → revision ≡ prepared_revision past + 1
    → ComesOf (record past { next = past.next ++ one ∷ [] }) units (Some after)
    (record sources { prepared = with_taken one.change.source one.change.number revision sources.prepared })
prepared_comes past units after next sources one revision comes after_is revision_is = record {
  newest = comes.newest;
  after = after_is ∙ sym (ap (λ (c : Content). c.units) (content-more past one));
  held = comes.held;
  prepared = ap₂ (with_taken one.change.source one.change.number) revision_is comes.prepared ∙ sym (sources-prepared past one);
}

-- where nothing is prepared, the document is what it will be
pub units-unprepared : (past : Prepared) (units : List Element) (next : Option (List Element)) (sources : Table) → ComesOf past units next sources → next ≡ None
    → prepared_units past ≡ units
units-unprepared past units next sources comes none =
    let nothing : past.next ≡ [] = subst (AreNextUnits past) none comes.after in
    ap (λ (l : List Next). (content_after_all (newest_content past.past) l).units) nothing ∙ sym comes.newest

-- what there is where a command follows a document with what is prepared
module _ (limits : Limits) (d : PendingDocument) (taken : Taken) (is : IsLimits limits) (comes : follows limits (with_prepared limits.keep d) taken ≡ true) where
  parts : (suits (prepared_content d.past).live taken.step ≡ true) × (comes_next limits (prepared_revision d.past) (prepared_sources d.past) taken ≡ true)
      × (keeps limits (prepared_units d.past) (prepared_sources d.past) taken ≡ true)
  parts =
      let all = and_parts (suits (prepared_content d.past).live taken.step && comes_next limits (prepared_revision d.past) (prepared_sources d.past) taken)
      (keeps limits (prepared_units d.past) (prepared_sources d.past) taken) (sym (follows_prepared limits d taken) ∙ comes) in
      let first = and_parts (suits (prepared_content d.past).live taken.step) (comes_next limits (prepared_revision d.past) (prepared_sources d.past) taken) all.0 in
      (first.0, first.1, all.1)

  pub next_suits : suits (prepared_content d.past).live taken.step ≡ true
  next_suits = parts.0

  pub next_revision : taken.revision ≡ prepared_revision d.past + 1
  next_revision =
      let five = next_parts limits (prepared_revision d.past) (prepared_sources d.past) taken parts.1 in
      eqb-true _ _ five.0

  pub next_light : (stands taken.step taken.delta (prepared_units d.past) ≡ true)
      × (length (units_after (prepared_units d.past) taken.step taken.delta) ≤ 2 ^ 29)
  next_light =
      let kept = kept-light limits (prepared_units d.past) (prepared_sources d.past) taken parts.2 in
      (kept.0, omega (arith, kept.1, is.weight, weight-some (units_after (prepared_units d.past) taken.step taken.delta)))

-- a live document may be edited
pub suits-edits : (step : Step) → edits step ≡ true → suits true step ≡ true
suits-edits Edits h = refl
suits-edits Deletes h = refl
suits-edits Revives h = absurd (true≢false (sym h))

-- a creation begins a document exactly where it edits and follows the empty one
pub follows-empty : (limits : Limits) (name : List ℕ) (taken : Taken) → IsLimits limits → edits taken.step ≡ true
    → follows limits (with_prepared limits.keep (record { name = name; past = record { past = empty_past; next = [] } })) taken ≡ begins limits taken
follows-empty limits name taken is edit =
    by_first (suits true taken.step) (edits taken.step) (taken.revision == 1) (taken.number == 1) (nat_le taken.number last_of_all) (has_place limits taken.source empty)
    (keeps limits [] empty taken) (suits-edits taken.step edit) edit
    (lt-ltb 0 limits.sources (omega (arith, is.some_source)))
    (λ one. le-leb taken.number last_of_all (omega (arith, eqb-true taken.number 1 one)))
  where
    by_first : (s e a b c p k : Bool) → s ≡ true → e ≡ true → p ≡ true → (b ≡ true → c ≡ true) → (s && (a && true && b && c && p) && k) ≡ (e && a && b && k)
    by_first s e false b c p k suit edit place some = rw (suit, edit) refl
    by_first s e true false c p k suit edit place some = rw (suit, edit) refl
    by_first s e true true c p k suit edit place some = rw (suit, edit, some refl, place) refl
