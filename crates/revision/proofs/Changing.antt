-- A past with a change more: what it holds at its new revision, and at those before it.
use Rattle.std.proofs.Common.{◌≡◌, ℕ, ◌+◌, ◌-◌, ◌≤◌, max, List, [], ◌∷◌, ◌++◌, length, take, drop, map, length-append, refl, sym, ap, subst, ◌∙◌, arith}
use Rattle.std.proofs.lemmas.List.{take_all, length-map, map-append, drop-map, length-drop}
use Rattle.delta.specs.Element.{Element}
use Rattle.delta.specs.Gaps.{counted, apply}
use Rattle.document.specs.Outcome.{IsAccepted}
use Rattle.compose.specs.Many.{applied}
use Rattle.revision.specs.Sources.{Sources, with_taken}
use Rattle.revision.specs.Command.{Edits, Deletes, Revives}
use Rattle.revision.specs.Past.{StandInTurn, Content, Change, Past, content_after, newest, newest_content, newest_sources, deltas_of, sources_after, content_at, sources_at, from_floor, with_change, rebased}
use Rattle.revision.specs.Floors.{longer, FromItself, FromTwice, FromNewest, FromLonger, StepMakes}
use Rattle.revision.proofs.Floors.{newest-from, from-from, from-more}
use Rattle.revision.proofs.Replays.{stand-drop}
use Rattle.revision.proofs.Kept.{stand-more}

pub from_itself : FromItself
from_itself past =
    λ i. record {
      floor = past.floor;
      content = record { units = applied past.content.units (take (none i) (deltas_of past)); live = past.content.live };
      sources = sources_after past.floor past.sources (take (none i) past.changes);
      changes = drop (none i) past.changes;
    }
  where
    none : past.floor - past.floor ≡ 0
    none = omega arith

pub from_twice : FromTwice
from_twice past first second above higher = from-from past first above second higher

pub from_newest : FromNewest
from_newest past floor above there = newest-from past floor above there

pub from_longer : FromLonger
from_longer past floor change above there = from-more past floor above (change ∷ []) there

-- all changes are applied, and noted
all_taken : {A : Type 0} (floor : ℕ) (list : List A) → take (floor + length list - floor) list ≡ list
all_taken floor list = take_all (floor + length list - floor) list (omega arith)

pub units-newest : (past : Past) → (content_at past (newest past)).units ≡ applied past.content.units (deltas_of past)
units-newest past =
    ap (λ n. applied past.content.units (take n (deltas_of past))) number
    ∙ ap (applied past.content.units) (take_all (length past.changes) (deltas_of past) long)
  where
    number : past.floor + length past.changes - past.floor ≡ length past.changes
    number = omega arith

    long : length (deltas_of past) ≤ length past.changes
    long = omega (arith, length-map past.changes (λ (change : Change). change.delta))

pub sources-newest : (past : Past) → sources_at past (newest past) ≡ sources_after past.floor past.sources past.changes
sources-newest past = ap (sources_after past.floor past.sources) (all_taken past.floor past.changes)

pub applied-more : (units : List Element) (changes : List Change) (change : Change)
    → applied units (map (λ (c : Change). c.delta) (changes ++ change ∷ [])) ≡ apply (applied units (map (λ (c : Change). c.delta) changes)) (counted change.delta)
applied-more units [] change = refl
applied-more units (first ∷ others) change = applied-more (apply units (counted first.delta)) others change

pub sources-more : (floor there : ℕ) (sources : Sources) (changes : List Change) (change : Change) → there ≡ floor + length changes
    → sources_after floor sources (changes ++ change ∷ []) ≡ with_taken change.source change.number (there + 1) (sources_after floor sources changes)
sources-more floor there sources [] change is = ap (λ r. with_taken change.source change.number (r + 1) sources) (sym (is ∙ none floor))
  where
    none : (n : ℕ) → n + 0 ≡ n
    none n = omega arith
sources-more floor there sources (first ∷ others) change is =
    sources-more (floor + 1) there (with_taken first.source first.number (floor + 1) sources) others change (omega (arith, is))

module _ (past : Past) (change : Change) where
  pub newest-longer : newest (longer past change) ≡ newest past + 1
  newest-longer = omega (arith, length-append past.changes (change ∷ []))

  pub units-longer : (content_at (longer past change) (newest past + 1)).units ≡ apply (content_at past (newest past)).units (counted change.delta)
  units-longer =
      ap (λ r. (content_at (longer past change) r).units) (sym newest-longer)
      ∙ (units-newest (longer past change)
      ∙ (applied-more past.content.units past.changes change
      ∙ ap (λ u. apply u (counted change.delta)) (sym (units-newest past))))

  pub sources-longer : sources_at (longer past change) (newest past + 1) ≡ with_taken change.source change.number (newest past + 1) (sources_at past (newest past))
  sources-longer =
      ap (sources_at (longer past change)) (sym newest-longer)
      ∙ (sources-newest (longer past change)
      ∙ (sources-more past.floor (newest past) past.sources past.changes change refl
      ∙ ap (with_taken change.source change.number (newest past + 1)) (sym (sources-newest past))))

  -- at the revisions before it holds what it held
  pub content-before : (revision : ℕ) → past.floor ≤ revision → revision ≤ newest past → content_at (longer past change) revision ≡ content_at past revision
  content-before revision above there = ap (λ (p : Past). p.content) (sym (from-more past revision above (change ∷ []) there))

  pub sources-before : (revision : ℕ) → past.floor ≤ revision → revision ≤ newest past → sources_at (longer past change) revision ≡ sources_at past revision
  sources-before revision above there = ap (λ (p : Past). p.sources) (sym (from-more past revision above (change ∷ []) there))

  module _ (keep : ℕ) where
    pub newest-with_change : newest (with_change keep past change) ≡ newest past + 1
    newest-with_change =
        newest-from (longer past change) (max past.floor (newest past + 1 - keep)) (omega arith) (omega (arith, newest-longer)) ∙ newest-longer

    -- from its floor on it is the longer one
    pub with_change-from : (floor : ℕ) → (with_change keep past change).floor ≤ floor → from_floor (with_change keep past change) floor ≡ from_floor (longer past change) floor
    with_change-from floor risen = from-from (longer past change) (max past.floor (newest past + 1 - keep)) (omega arith) floor risen

    pub units-with_change : (content_at (with_change keep past change) (newest past + 1)).units ≡ apply (content_at past (newest past)).units (counted change.delta)
    units-with_change = ap (λ (p : Past). p.content.units) (with_change-from (newest past + 1) (omega arith)) ∙ units-longer

    pub sources-with_change : sources_at (with_change keep past change) (newest past + 1)
        ≡ with_taken change.source change.number (newest past + 1) (sources_at past (newest past))
    sources-with_change = ap (λ (p : Past). p.sources) (with_change-from (newest past + 1) (omega arith)) ∙ sources-longer

    -- its deltas stand in turn where the change's stands on the newest units
    pub stand-with_change : StandInTurn past.content.units (deltas_of past) → IsAccepted (content_at past (newest past)).units (counted change.delta)
        → StandInTurn (with_change keep past change).content.units (deltas_of (with_change keep past change))
    stand-with_change stand accepted =
        let delta_of = λ (c : Change). c.delta in
        let count : ℕ = max past.floor (newest past + 1 - keep) - past.floor in
        let on_all : IsAccepted (applied past.content.units (deltas_of past)) (counted change.delta) =
        subst (λ u. IsAccepted u (counted change.delta)) (units-newest past) accepted in
        let more : StandInTurn past.content.units (deltas_of (longer past change)) =
        subst (StandInTurn past.content.units) (sym (map-append delta_of past.changes (change ∷ [])))
        (stand-more past.content.units (deltas_of past) change.delta stand on_all) in
        subst (StandInTurn (with_change keep past change).content.units) (drop-map delta_of count (longer past change).changes)
        (stand-drop count past.content.units (deltas_of (longer past change)) more)

    pub count-with_change : 1 ≤ keep → length past.changes ≤ keep → length (with_change keep past change).changes ≤ keep
    count-with_change some held =
        omega (arith, some, held, newest-longer, length-drop (max past.floor (newest past + 1 - keep) - past.floor) (longer past change).changes)

-- what a step makes that is the lowest revision held from then on
module _ (past : Past) (content : Content) (change : Change) where
  none : newest past + 1 - (newest past + 1) ≡ 0
  none = omega arith

  pub newest-rebased : newest (rebased past content change) ≡ newest past + 1
  newest-rebased = omega arith

  pub content-rebased : content_at (rebased past content change) (newest past + 1) ≡ content
  content-rebased = ap (λ n. record content { units = applied content.units (take n []) }) none

  pub sources-rebased : sources_at (rebased past content change) (newest past + 1)
      ≡ with_taken change.source change.number (newest past + 1) (newest_sources past)
  sources-rebased =
      ap (λ n. sources_after (newest past + 1) (with_taken change.source change.number (newest past + 1) (newest_sources past)) (take n [])) none

-- an edit keeps the mark
pub content-with_change : (keep : ℕ) (past : Past) (change : Change)
    → content_at (with_change keep past change) (newest past + 1) ≡ content_after (newest_content past) Edits change.delta
content-with_change keep past change = ap (λ u. record { units = u; live = past.content.live }) (units-with_change past change keep)

pub step_makes : StepMakes
step_makes keep past Edits change = (newest-with_change past change keep, content-with_change keep past change, sources-with_change past change keep)
step_makes keep past Deletes change =
    let content = content_after (newest_content past) Deletes change.delta in
    (newest-rebased past content change, content-rebased past content change, sources-rebased past content change)
step_makes keep past Revives change =
    let content = content_after (newest_content past) Revives change.delta in
    (newest-rebased past content change, content-rebased past content change, sources-rebased past content change)
