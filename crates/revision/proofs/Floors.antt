-- A past from a later floor on.
use Rattle.std.proofs.Common.{◌≡◌, ℕ, zero, suc, ◌+◌, ◌-◌, ◌≤◌, max, Bool, List, [], ◌∷◌, ◌++◌, length, take, drop, map, sym, ap, ◌∙◌, arith}
use Rattle.std.proofs.Math.Seq.{take-nil}
use Rattle.std.proofs.lemmas.List.{drop-map, take-map, drop-drop, take-append-le, drop-append-le, length-drop}
use Rattle.delta.specs.Element.{Element}
use Rattle.delta.specs.Operation.{Operation}
use Rattle.delta.specs.Gaps.{counted, apply}
use Rattle.compose.specs.Many.{applied}
use Rattle.revision.specs.Sources.{Sources, with_taken}
use Rattle.revision.specs.Past.{Past, Change, newest, deltas_of, sources_after, content_at, deltas_above, from_floor, with_change}

-- the first deltas and some of those after them
pub applied-take : (a b : ℕ) (units : List Element) (deltas : List (List Operation)) → applied (applied units (take a deltas)) (take b (drop a deltas)) ≡ applied units (take (a + b) deltas)
applied-take zero b units deltas =
    let sum : b ≡ 0 + b = omega arith in
    ap (λ n. applied units (take n deltas)) sum
applied-take (suc a) b units [] =
    let sum : suc (a + b) ≡ suc a + b = omega arith in
    ap (applied units) (take-nil b) ∙ ap (λ n. applied units (take n [])) sum
applied-take (suc a) b units (first ∷ others) =
    let sum : suc (a + b) ≡ suc a + b = omega arith in
    applied-take a b (apply units (counted first)) others ∙ ap (λ n. applied units (take n (first ∷ others))) sum

sources-take : (a b revision : ℕ) (sources : Sources) (changes : List Change)
    → sources_after (revision + a) (sources_after revision sources (take a changes)) (take b (drop a changes)) ≡ sources_after revision sources (take (a + b) changes)
sources-take zero b revision sources changes =
    let here : revision + 0 ≡ revision = omega arith in
    let sum : b ≡ 0 + b = omega arith in
    ap (λ n. sources_after n sources (take b changes)) here ∙ ap (λ n. sources_after revision sources (take n changes)) sum
sources-take (suc a) b revision sources [] =
    let sum : suc (a + b) ≡ suc a + b = omega arith in
    ap (sources_after (revision + suc a) sources) (take-nil b) ∙ ap (λ n. sources_after revision sources (take n [])) sum
sources-take (suc a) b revision sources (first ∷ others) =
    let next : Sources = with_taken first.source first.number (revision + 1) sources in
    let later : revision + suc a ≡ (revision + 1) + a = omega arith in
    let sum : suc (a + b) ≡ suc a + b = omega arith in
    ap (λ n. sources_after n (sources_after (revision + 1) next (take a others)) (take b (drop a others))) later
    ∙ (sources-take a b (revision + 1) next others ∙ ap (λ n. sources_after revision sources (take n (first ∷ others))) sum)

-- pasts with equal parts are equal
past_is : (floor : ℕ) (live : Bool) (units units' : List Element) (sources sources' : Sources) (changes changes' : List Change) → units ≡ units' → sources ≡ sources' → changes ≡ changes'
    → ◌≡◌ {A = Past} (record { floor = floor; content = record { units = units; live = live }; sources = sources; changes = changes })
    (record { floor = floor; content = record { units = units'; live = live }; sources = sources'; changes = changes' })
past_is floor live units units' sources sources' changes changes' u s c =
    λ i. record { floor = floor; content = record { units = u i; live = live }; sources = s i; changes = c i }

module _ (past : Past) (floor : ℕ) (above : past.floor ≤ floor) where
  pub newest-from : floor ≤ newest past → newest (from_floor past floor) ≡ newest past
  newest-from there = omega (arith, above, there, length-drop (floor - past.floor) past.changes)

  -- from a floor above that one too
  pub from-from : (higher : ℕ) → floor ≤ higher → from_floor (from_floor past floor) higher ≡ from_floor past higher
  from-from higher le =
      let a : ℕ = floor - past.floor in
      let b : ℕ = higher - floor in
      let sum : a + b ≡ higher - past.floor = omega (arith, above, le) in
      let place : floor ≡ past.floor + a = omega (arith, above) in
      let units = past.content.units in
      past_is higher past.content.live _ _ _ _ _ _
      (ap (λ l. applied (applied units (take a (deltas_of past))) (take b l)) (sym (drop-map (λ (c : Change). c.delta) a past.changes))
      ∙ (applied-take a b units (deltas_of past) ∙ ap (λ n. applied units (take n (deltas_of past))) sum))
      (ap (λ n. sources_after n (sources_after past.floor past.sources (take a past.changes)) (take b (drop a past.changes))) place
      ∙ (sources-take a b past.floor past.sources past.changes ∙ ap (λ n. sources_after past.floor past.sources (take n past.changes)) sum))
      (drop-drop b a past.changes ∙ ap (λ n. drop n past.changes) sum)

  -- what comes of a revision above both
  pub content-from : (revision : ℕ) → floor ≤ revision → content_at (from_floor past floor) revision ≡ content_at past revision
  content-from revision le = ap (λ (p : Past). p.content) (from-from revision le)

  pub deltas-from : (revision : ℕ) → floor ≤ revision → deltas_above (from_floor past floor) revision ≡ deltas_above past revision
  deltas-from revision le =
      drop-map (λ (c : Change). c.delta) (revision - floor) (from_floor past floor).changes
      ∙ (ap deltas_of (from-from revision le) ∙ sym (drop-map (λ (c : Change). c.delta) (revision - past.floor) past.changes))

  -- changes behind the others
  pub from-more : (more : List Change) → floor ≤ newest past
      → (record (from_floor past floor) { changes = (from_floor past floor).changes ++ more }) ≡ from_floor (record past { changes = past.changes ++ more }) floor
  from-more more there =
      let a : ℕ = floor - past.floor in
      let within : a ≤ length past.changes = omega (arith, above, there) in
      let delta : Change → List Operation = λ (c : Change). c.delta in
      past_is floor past.content.live _ _ _ _ _ _
      (ap (applied past.content.units) (take-map delta a past.changes ∙ (ap (map delta) (sym (take-append-le a past.changes more within)) ∙ sym (take-map delta a (past.changes ++ more)))))
      (ap (sources_after past.floor past.sources) (sym (take-append-le a past.changes more within)))
      (sym (drop-append-le a past.changes more within))

-- one change more
pub change-from : (keep : ℕ) (past : Past) (floor : ℕ) (change : Change) → past.floor ≤ floor → floor ≤ newest past
    → with_change keep (from_floor past floor) change ≡ from_floor (record past { changes = past.changes ++ change ∷ [] }) (max floor (newest past + 1 - keep))
change-from keep past floor change above there =
    let more : Past = record past { changes = past.changes ++ change ∷ [] } in
    let higher : ℕ = max floor (newest (from_floor past floor) + 1 - keep) in
    ap (λ (p : Past). from_floor p higher) (from-more past floor above (change ∷ []) there)
    ∙ (from-from more floor above higher (omega arith) ∙ ap (λ n. from_floor more (max floor (n + 1 - keep))) (newest-from past floor above there))
