-- What is prepared of a past, as it is kept: each delta leads to what stands after its step; and what comes of it once it is accepted.
use Rattle.std.proofs.Common.{◌≡◌, ℕ, zero, suc, ◌+◌, ◌-◌, ◌≤◌, ◌<◌, max, Bool, true, false, List, [], ◌∷◌, ◌++◌, length, take, drop, get_or, length-append, refl, sym, ap, ap₂, subst, ◌∙◌, true≢false, arith}
use Rattle.std.specs.Prelude.{◌||◌, ◌==◌}
use Rattle.std.proofs.lemmas.List.{drop_all}
use Rattle.delta.specs.Element.{Element}
use Rattle.delta.specs.Operation.{Operation}
use Rattle.delta.specs.Gaps.{counted, apply}
use Rattle.compose.specs.Many.{applied}
use Rattle.revision.specs.declared.rule.taker.Taker.{Taker}
use Rattle.revision.specs.Command.{Step, Edits, Deletes, Revives, edits}
use Rattle.revision.specs.Sources.{with_taken}
use Rattle.revision.specs.Past.{Past, Content, Change, own_delta, next_by, nexts_by, changes_by, is_content, suits, live_after, units_after, content_after, content_after_all, LeadsTo, LeadInTurn, newest, newest_content, newest_sources, sources_at, content_at, from_floor, rebased, with_step, with_steps}
use Rattle.revision.specs.Floors.{longer}
use Rattle.revision.specs.steps.Turning.{turn_or, steps_to_last_reset, floor_after_reset, live_after_takers, leaves_live, live_by_last}
use Rattle.revision.proofs.Floors.{newest-from, from-from, change-from}
use Rattle.revision.proofs.Changing.{newest-longer, units-longer, sources-longer}

-- the delta that a deletion is kept by says the same as none
pub own-same : (content : Content) (step : Step) (delta : List Operation) → content_after content step (own_delta step delta) ≡ content_after content step delta
own-same content Edits delta = refl
own-same content Deletes delta = refl
own-same content Revives delta = refl

pub own-after : (units : List Element) (step : Step) (delta : List Operation) → units_after units step (own_delta step delta) ≡ units_after units step delta
own-after units Edits delta = refl
own-after units Deletes delta = refl
own-after units Revives delta = refl

-- what comes next by as many takers as deltas
pub nexts-length : (takers : List Taker) (deltas : List (List Operation)) → length takers ≡ length deltas → length (nexts_by takers deltas) ≡ length deltas
nexts-length [] [] same = refl
nexts-length [] (delta ∷ deltas) same = absurd (omega (arith, same))
nexts-length (taker ∷ takers) [] same = refl
nexts-length (taker ∷ takers) (delta ∷ deltas) same = ap suc (nexts-length takers deltas (omega (arith, same)))

pub nexts-more : (takers : List Taker) (deltas : List (List Operation)) (taker : Taker) (delta : List Operation) → length takers ≡ length deltas
    → nexts_by (takers ++ taker ∷ []) (deltas ++ delta ∷ []) ≡ nexts_by takers deltas ++ next_by taker.source taker.number taker.step delta ∷ []
nexts-more [] [] taker delta same = refl
nexts-more [] (d ∷ deltas) taker delta same = absurd (omega (arith, same))
nexts-more (t ∷ takers) [] taker delta same = absurd (omega (arith, same))
nexts-more (t ∷ takers) (d ∷ deltas) taker delta same = ap (λ l. next_by t.source t.number t.step d ∷ l) (nexts-more takers deltas taker delta (omega (arith, same)))

pub nexts-take : (n : ℕ) (takers : List Taker) (deltas : List (List Operation)) → nexts_by (take n takers) (take n deltas) ≡ take n (nexts_by takers deltas)
nexts-take zero takers deltas = refl
nexts-take (suc n) [] deltas = refl
nexts-take (suc n) (taker ∷ takers) [] = refl
nexts-take (suc n) (taker ∷ takers) (delta ∷ deltas) = ap (λ l. next_by taker.source taker.number taker.step delta ∷ l) (nexts-take n takers deltas)

pub nexts-drop : (n : ℕ) (takers : List Taker) (deltas : List (List Operation)) → length takers ≡ length deltas
    → nexts_by (drop n takers) (drop n deltas) ≡ drop n (nexts_by takers deltas)
nexts-drop zero takers deltas same = refl
nexts-drop (suc n) [] [] same = refl
nexts-drop (suc n) [] (delta ∷ deltas) same = absurd (omega (arith, same))
nexts-drop (suc n) (taker ∷ takers) [] same = absurd (omega (arith, same))
nexts-drop (suc n) (taker ∷ takers) (delta ∷ deltas) same = nexts-drop n takers deltas (omega (arith, same))

-- what stands after them is what the deltas make that are kept
pub nexts-units : (content : Content) (takers : List Taker) (deltas : List (List Operation)) → length takers ≡ length deltas → LeadInTurn content takers deltas
    → (content_after_all content (nexts_by takers deltas)).units ≡ applied content.units deltas
nexts-units content [] [] same lead = refl
nexts-units content [] (delta ∷ deltas) same lead = absurd (omega (arith, same))
nexts-units content (taker ∷ takers) [] same lead = absurd (omega (arith, same))
nexts-units content (taker ∷ takers) (delta ∷ deltas) same lead =
    ap (λ (c : Content). (content_after_all c (nexts_by takers deltas)).units) (own-same content taker.step delta)
    ∙ (nexts-units (content_after content taker.step delta) takers deltas (omega (arith, same)) lead.1
    ∙ ap (λ u. applied u deltas) (sym lead.0.units))

pub nexts-live : (content : Content) (takers : List Taker) (deltas : List (List Operation)) → length takers ≡ length deltas
    → (content_after_all content (nexts_by takers deltas)).live ≡ live_after_takers content.live takers
nexts-live content [] [] same = refl
nexts-live content [] (delta ∷ deltas) same = absurd (omega (arith, same))
nexts-live content (taker ∷ takers) [] same = absurd (omega (arith, same))
nexts-live content (taker ∷ takers) (delta ∷ deltas) same =
    nexts-live (content_after content taker.step (own_delta taker.step delta)) takers deltas (omega (arith, same))

-- a step that suits the mark decides the next one, whatever the mark was
live-left : (live : Bool) (step : Step) → suits live step ≡ true → live_after live step ≡ leaves_live step
live-left live Edits suit = suit
live-left live Deletes suit = refl
live-left live Revives suit = refl

-- so the last of several that suit decides
pub live-by-last : (content : Content) (takers : List Taker) (deltas : List (List Operation)) → length takers ≡ length deltas → LeadInTurn content takers deltas
    → live_after_takers content.live takers ≡ live_by_last content.live takers
live-by-last content [] deltas same lead = refl
live-by-last content (taker ∷ takers) [] same lead = absurd (omega (arith, same))
live-by-last content (taker ∷ takers) (delta ∷ deltas) same lead =
    live-by-last (content_after content taker.step delta) takers deltas (omega (arith, same)) lead.1
    ∙ ap (λ (b : Bool). live_by_last b takers) (live-left content.live taker.step lead.0.suited)

-- where there are some, the last is the one at the place below their number
pub last-decides : (live : Bool) (takers : List Taker) (n : ℕ) (t : Taker) → length takers ≡ suc n → t ≡ get_or takers n t
    → live_by_last live takers ≡ leaves_live t.step
last-decides live [] n t many same = absurd (omega (arith, many))
last-decides live (first ∷ []) zero t many same = ap (λ (u : Taker). leaves_live u.step) (sym same)
last-decides live (first ∷ []) (suc n) t many same = absurd (omega (arith, many))
last-decides live (first ∷ second ∷ others) zero t many same = absurd (omega (arith, many))
last-decides live (first ∷ second ∷ others) (suc n) t many same =
    last-decides (leaves_live first.step) (second ∷ others) n t (omega (arith, many)) same

-- nothing stands in a document that is deleted, however it continues by steps that suit it
step-content : (content : Content) (step : Step) (delta : List Operation) → is_content content ≡ true → suits content.live step ≡ true
    → is_content (content_after content step delta) ≡ true
step-content content Edits delta may suit = ap (λ b. b || (length (apply content.units (counted delta)) == 0)) suit
step-content content Deletes delta may suit = refl
step-content content Revives delta may suit = refl

pub nexts-content : (content : Content) (takers : List Taker) (deltas : List (List Operation)) → is_content content ≡ true → LeadInTurn content takers deltas
    → is_content (content_after_all content (nexts_by takers deltas)) ≡ true
nexts-content content [] deltas may lead = may
nexts-content content (taker ∷ takers) [] may lead = may
nexts-content content (taker ∷ takers) (delta ∷ deltas) may lead =
    subst (λ (c : Content). is_content (content_after_all c (nexts_by takers deltas)) ≡ true) (sym (own-same content taker.step delta))
    (nexts-content (content_after content taker.step delta) takers deltas (step-content content taker.step delta may lead.0.suited) lead.1)

-- one more that leads on
pub lead-more : (content : Content) (takers : List Taker) (deltas : List (List Operation)) (taker : Taker) (delta : List Operation) → length takers ≡ length deltas
    → LeadInTurn content takers deltas → LeadsTo (content_after_all content (nexts_by takers deltas)) taker.step delta
    → LeadInTurn content (takers ++ taker ∷ []) (deltas ++ delta ∷ [])
lead-more content [] [] taker delta same lead next = (next, tt)
lead-more content [] (d ∷ deltas) taker delta same lead next = absurd (omega (arith, same))
lead-more content (t ∷ takers) [] taker delta same lead next = absurd (omega (arith, same))
lead-more content (t ∷ takers) (d ∷ deltas) taker delta same lead next = (
  lead.0,
  lead-more (content_after content t.step d) takers deltas taker delta (omega (arith, same)) lead.1
      (subst (λ (c : Content). LeadsTo (content_after_all c (nexts_by takers deltas)) taker.step delta) (own-same content t.step d) next),
)

pub lead-take : (n : ℕ) (content : Content) (takers : List Taker) (deltas : List (List Operation)) → LeadInTurn content takers deltas
    → LeadInTurn content (take n takers) (take n deltas)
lead-take zero content takers deltas lead = tt
lead-take (suc n) content [] deltas lead = tt
lead-take (suc n) content (taker ∷ takers) [] lead = tt
lead-take (suc n) content (taker ∷ takers) (delta ∷ deltas) lead = (lead.0, lead-take n (content_after content taker.step delta) takers deltas lead.1)

-- a past with a step more and nothing let go, with the mark that it then has
abbrev one_more : Past → Step → Change → Past
one_more whole step change = record {
  floor = whole.floor;
  content = record { units = whole.content.units; live = live_after whole.content.live step };
  sources = whole.sources;
  changes = whole.changes ++ change ∷ [];
}

-- with all that takers did
abbrev pub moved : Past → List Taker → List (List Operation) → Past
moved whole takers deltas = record {
  floor = whole.floor;
  content = record { units = whole.content.units; live = live_after_takers whole.content.live takers };
  sources = whole.sources;
  changes = whole.changes ++ changes_by takers deltas;
}

-- the floor after a step, and after several
abbrev next_floor : ℕ → ℕ → ℕ → Step → ℕ
next_floor keep newest floor Edits = max floor (newest + 1 - keep)
next_floor keep newest floor Deletes = newest + 1
next_floor keep newest floor Revives = newest + 1

abbrev pub floor_after : ℕ → ℕ → ℕ → List Taker → ℕ
floor_after keep newest floor [] = floor
floor_after keep newest floor (first ∷ others) = floor_after keep (newest + 1) (next_floor keep newest floor first.step) others

abbrev memory_of : Taker → List Operation → Change
memory_of taker delta = record { source = taker.source; number = taker.number; delta = delta }

-- a deletion or a creation again, of a past that is seen from a floor on
module _ (whole : Past) (floor : ℕ) (above : whole.floor ≤ floor) (there : floor ≤ newest whole) (content : Content) (own kept : Change)
    (source : own.source ≡ kept.source) (number : own.number ≡ kept.number)
    (units : apply (newest_content whole).units (counted kept.delta) ≡ content.units) where
  same_newest : newest (from_floor whole floor) ≡ newest whole
  same_newest = newest-from whole floor above there

  same_sources : newest_sources (from_floor whole floor) ≡ newest_sources whole
  same_sources =
      ap (sources_at (from_floor whole floor)) same_newest ∙ ap (λ (p : Past). p.sources) (from-from whole floor above (newest whole) there)

  left : drop (newest whole + 1 - whole.floor) (whole.changes ++ kept ∷ []) ≡ []
  left = drop_all (newest whole + 1 - whole.floor) (whole.changes ++ kept ∷ []) (omega (arith, length-append whole.changes (kept ∷ [])))

  noted : with_taken own.source own.number (newest (from_floor whole floor) + 1) (newest_sources (from_floor whole floor))
      ≡ sources_at (longer whole kept) (newest whole + 1)
  noted =
      (λ i. with_taken (source i) (number i) (same_newest i + 1) (same_sources i)) ∙ sym (sources-longer whole kept)

  turn-from : rebased (from_floor whole floor) content own
      ≡ from_floor (record {
        floor = whole.floor;
        content = record { units = whole.content.units; live = content.live };
        sources = whole.sources;
        changes = whole.changes ++ kept ∷ [];
      }) (newest whole + 1)
  turn-from =
      let made : content.units ≡ (content_at (longer whole kept) (newest whole + 1)).units = sym units ∙ sym (units-longer whole kept) in
      λ i. record {
        floor = same_newest i + 1;
        content = record { units = made i; live = content.live };
        sources = noted i;
        changes = sym left i;
      }

step-from : (keep : ℕ) (whole : Past) (floor : ℕ) (taker : Taker) (delta : List Operation) → whole.floor ≤ floor → floor ≤ newest whole
    → LeadsTo (newest_content whole) taker.step delta
    → with_step keep (from_floor whole floor) taker.step (next_by taker.source taker.number taker.step delta).change
    ≡ from_floor (one_more whole taker.step (memory_of taker delta)) (next_floor keep (newest whole) floor taker.step)
step-from keep whole floor taker delta above there lead = by_step taker.step lead where
  by_step : (step : Step) → LeadsTo (newest_content whole) step delta
      → with_step keep (from_floor whole floor) step (next_by taker.source taker.number step delta).change
      ≡ from_floor (one_more whole step (memory_of taker delta)) (next_floor keep (newest whole) floor step)
  by_step Edits lead = change-from keep whole floor (memory_of taker delta) above there
  by_step Deletes lead =
      turn-from whole floor above there (record { units = []; live = false }) (next_by taker.source taker.number Deletes delta).change (memory_of taker delta)
      refl refl lead.units
  by_step Revives lead =
      turn-from whole floor above there (record { units = apply [] (counted delta); live = true }) (next_by taker.source taker.number Revives delta).change
      (memory_of taker delta) refl refl lead.units

append-more : {A : Type 0} (xs : List A) (x : A) (ys : List A) → (xs ++ x ∷ []) ++ ys ≡ xs ++ x ∷ ys
append-more [] x ys = refl
append-more (y ∷ xs) x ys = ap (λ l. y ∷ l) (append-more xs x ys)

append-none : {A : Type 0} (xs : List A) → xs ++ [] ≡ xs
append-none [] = refl
append-none (x ∷ xs) = ap (λ l. x ∷ l) (append-none xs)

-- what stands at the newest revision after a step
content-one_more : (whole : Past) (taker : Taker) (delta : List Operation) → LeadsTo (newest_content whole) taker.step delta
    → newest_content (one_more whole taker.step (memory_of taker delta)) ≡ content_after (newest_content whole) taker.step delta
content-one_more whole taker delta lead =
    ap (λ u. record { units = u; live = live_after whole.content.live taker.step })
    (ap (λ r. (content_at (longer whole (memory_of taker delta)) r).units) (newest-longer whole (memory_of taker delta))
    ∙ (units-longer whole (memory_of taker delta) ∙ lead.units))

-- All that is prepared, accepted.
pub steps-from : (keep : ℕ) (whole : Past) (floor : ℕ) (takers : List Taker) (deltas : List (List Operation)) → whole.floor ≤ floor → floor ≤ newest whole
    → length takers ≡ length deltas → LeadInTurn (newest_content whole) takers deltas
    → with_steps keep (from_floor whole floor) (nexts_by takers deltas) ≡ from_floor (moved whole takers deltas) (floor_after keep (newest whole) floor takers)
steps-from keep whole floor [] [] above there same lead =
    ap (λ l. from_floor (record whole { changes = l }) floor) (sym (append-none whole.changes))
steps-from keep whole floor [] (delta ∷ deltas) above there same lead = absurd (omega (arith, same))
steps-from keep whole floor (taker ∷ takers) [] above there same lead = absurd (omega (arith, same))
steps-from keep whole floor (taker ∷ takers) (delta ∷ deltas) above there same lead =
    let change : Change = memory_of taker delta in
    let more : Past = one_more whole taker.step change in
    let higher : ℕ = next_floor keep (newest whole) floor taker.step in
    let long : newest more ≡ newest whole + 1 = newest-longer whole change in
    let bounds = next-bounds keep (newest whole) floor taker.step there in
    ap (λ (p : Past). with_steps keep p (nexts_by takers deltas)) (step-from keep whole floor taker delta above there lead.0)
    ∙ (steps-from keep more higher takers deltas (omega (arith, bounds.0, above)) (omega (arith, bounds.1, long)) (omega (arith, same))
    (subst (λ (c : Content). LeadInTurn c takers deltas) (sym (content-one_more whole taker delta lead.0)) lead.1)
    ∙ ap₂ (λ (l : List Change) (n : ℕ). from_floor (record (moved whole (taker ∷ takers) (delta ∷ deltas)) { changes = l }) (floor_after keep n higher takers))
    (append-more whole.changes change (changes_by takers deltas)) long)
  where
    next-bounds : (keep newest floor : ℕ) (step : Step) → floor ≤ newest → (floor ≤ next_floor keep newest floor step) × (next_floor keep newest floor step ≤ newest + 1)
    next-bounds keep newest floor Edits le = (omega arith, omega (arith, le))
    next-bounds keep newest floor Deletes le = (omega (arith, le), omega arith)
    next-bounds keep newest floor Revives le = (omega (arith, le), omega arith)

pub floor-is : (keep newest floor : ℕ) (first : Taker) (others : List Taker) → 1 ≤ keep → floor ≤ newest
    → floor_after keep newest floor (first ∷ others)
    ≡ max (floor_after_reset newest floor (steps_to_last_reset (first ∷ others))) (newest + length (first ∷ others) - keep)
floor-is keep newest floor first [] some le = by_step first.step where
  by_step : (step : Step) → next_floor keep newest floor step ≡ max (floor_after_reset newest floor (turn_or 0 step)) (newest + 1 - keep)
  by_step Edits = refl
  by_step Deletes = omega arith
  by_step Revives = omega arith
floor-is keep newest floor first (second ∷ others) some le =
    floor-is keep (newest + 1) (next_floor keep newest floor first.step) second others some (bounded first.step)
    ∙ by_later (steps_to_last_reset (second ∷ others)) first.step
  where
    bounded : (step : Step) → next_floor keep newest floor step ≤ newest + 1
    bounded Edits = omega (arith, le)
    bounded Deletes = omega arith
    bounded Revives = omega arith

    by_later : (later : ℕ) (step : Step)
        → max (floor_after_reset (newest + 1) (next_floor keep newest floor step) later) (newest + 1 + length (second ∷ others) - keep)
        ≡ max (floor_after_reset newest floor (turn_or later step)) (newest + length (first ∷ second ∷ others) - keep)
    by_later zero Edits = omega arith
    by_later zero Deletes = omega arith
    by_later zero Revives = omega arith
    by_later (suc later) step = omega arith

-- no more of them lead up to it than there are
pub turns-within : (takers : List Taker) → steps_to_last_reset takers ≤ length takers
turns-within [] = omega arith
turns-within (first ∷ others) = by_later (steps_to_last_reset others) first.step (turns-within others)
  where
    by_later : (later : ℕ) (step : Step) → later ≤ length others → turn_or later step ≤ length (first ∷ others)
    by_later zero Edits le = omega arith
    by_later zero Deletes le = omega arith
    by_later zero Revives le = omega arith
    by_later (suc later) step le = omega (arith, le)

-- the last of some that edit, and the last of some that doesn't
pub turn-edits : (n : ℕ) (takers : List Taker) (t : Taker) → n < length takers → t ≡ get_or takers n t → edits t.step ≡ true
    → steps_to_last_reset (take (suc n) takers) ≡ steps_to_last_reset (take n takers)
turn-edits n [] t there same edit = absurd (omega (arith, there))
turn-edits zero (first ∷ others) t there same edit = by_step first.step (ap (λ (u : Taker). edits u.step) (sym same) ∙ edit)
  where
    by_step : (step : Step) → edits step ≡ true → turn_or 0 step ≡ 0
    by_step Edits e = refl
    by_step Deletes e = absurd (true≢false (sym e))
    by_step Revives e = absurd (true≢false (sym e))
turn-edits (suc n) (first ∷ others) t there same edit =
    ap (λ l. turn_or l first.step) (turn-edits n others t (omega (arith, there)) same edit)

pub turn-here : (n : ℕ) (takers : List Taker) (t : Taker) → n < length takers → t ≡ get_or takers n t → edits t.step ≡ false
    → steps_to_last_reset (take (suc n) takers) ≡ suc n
turn-here n [] t there same other = absurd (omega (arith, there))
turn-here zero (first ∷ others) t there same other = by_step first.step (ap (λ (u : Taker). edits u.step) (sym same) ∙ other)
  where
    by_step : (step : Step) → edits step ≡ false → turn_or 0 step ≡ 1
    by_step Edits e = absurd (true≢false e)
    by_step Deletes e = refl
    by_step Revives e = refl
turn-here (suc n) (first ∷ others) t there same other =
    ap (λ l. turn_or l first.step) (turn-here n others t (omega (arith, there)) same other)
