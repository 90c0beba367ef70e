-- A past from a higher revision on.
use Rattle.std.proofs.Common.{◌≡◌, ℕ, zero, suc, ◌+◌, ◌-◌, ◌≤◌, max, List, [], ◌∷◌, length, get_or, Option, Some, refl, sym, ap, subst, ◌∙◌, arith}
use Rattle.std.specs.Prelude.{min, slice_get}
use Rattle.std.proofs.lemmas.List.{drop-map, length-drop}
use Rattle.std.proofs.lemmas.Option.{same_Some}
use Rattle.revision.specs.Past.{StandInTurn, Parts, AreParts, Past, Change, newest, newest_units, newest_sources, deltas_of, content_at, sources_at, from_floor, whole_past, seen}
use Rattle.revision.specs.Floors.{raised, raised_each}
use Rattle.revision.specs.Invariants.{IsPast, NamesDiffer, IsState}
use Rattle.revision.specs.State.{Limits, DocumentRecord, State}
use Rattle.revision.proofs.Floors.{newest-from, from-from, content-from}
use Rattle.revision.proofs.Parts.{whole-newest}
use Rattle.revision.proofs.Replays.{stand-drop}
use Rattle.revision.proofs.Changing.{from_itself}
use Rattle.revision.proofs.Keeping.{keeps-same}

module _ (parts : Parts) (is : AreParts parts) (revision floor : ℕ) (floor_is : floor ≡ max parts.floor (min revision (parts.start + parts.count))) where
  pub raise_is : seen (record parts { floor = floor }) ≡ record (seen parts) { past = raised revision (seen parts).past }
  raise_is =
      let top : newest (whole_past parts) ≡ parts.start + parts.count = whole-newest parts is in
      let same : newest (seen parts).past ≡ newest (whole_past parts) = newest-from (whole_past parts) parts.floor is.start (omega (arith, top, is.floor)) in
      let there : floor ≡ max parts.floor (min revision (newest (seen parts).past)) = omega (arith, floor_is, same, top) in
      ap (λ (p : Past). record (seen parts) { past = p })
      (sym (from-from (whole_past parts) parts.floor is.start floor (omega (arith, floor_is)))
      ∙ ap (λ (n : ℕ). from_floor (seen parts).past n) there)

module _ (past : Past) (floor : ℕ) (above : past.floor ≤ floor) (within : floor ≤ newest past) where
  sources-from : (revision : ℕ) → floor ≤ revision → sources_at (from_floor past floor) revision ≡ sources_at past revision
  sources-from revision le = ap (λ (p : Past). p.sources) (from-from past floor above revision le)

  pub from-is-past : (limits : Limits) → IsPast limits past → IsPast limits (from_floor past floor)
  from-is-past limits is = record {
    stand = subst (StandInTurn (from_floor past floor).content.units) (sym (sym (drop-map (λ (c : Change). c.delta) (floor - past.floor) past.changes)))
        (stand-drop (floor - past.floor) past.content.units (deltas_of past) is.stand);
    count = omega (arith, is.count, length-drop (floor - past.floor) past.changes);
    first = omega (arith, is.first, same);
    last = omega (arith, is.last, same);
    each = λ revision low high. keeps-same limits past (from_floor past floor) revision (content-from past floor above revision low)
        (sources-from revision low) (is.each revision (omega (arith, low, above)) (omega (arith, high, same)));
  }
    where
      same : newest (from_floor past floor) ≡ newest past
      same = newest-from past floor above within

module _ (revision : ℕ) (past : Past) where
  low : past.floor ≤ max past.floor (min revision (newest past))
  low = omega arith

  high : max past.floor (min revision (newest past)) ≤ newest past
  high = omega arith

  pub raised-newest : newest (raised revision past) ≡ newest past
  raised-newest = newest-from past (max past.floor (min revision (newest past))) low high

  pub raised-units : newest_units (raised revision past) ≡ newest_units past
  raised-units =
      ap (λ n. (content_at (raised revision past) n).units) raised-newest
      ∙ ap (λ c. c.units) (content-from past (max past.floor (min revision (newest past))) low (newest past) high)

  pub raised-sources : newest_sources (raised revision past) ≡ newest_sources past
  raised-sources =
      ap (λ n. sources_at (raised revision past) n) raised-newest
      ∙ sources-from past (max past.floor (min revision (newest past))) low high (newest past) high

  pub raised-is-past : (limits : Limits) → IsPast limits past → IsPast limits (raised revision past)
  raised-is-past limits = from-is-past past (max past.floor (min revision (newest past))) low high limits

pub raised_none : (past : Past) → raised 0 past ≡ past
raised_none past =
    let here : max past.floor (min 0 (newest past)) ≡ past.floor = omega arith in
    ap (from_floor past) here ∙ from_itself past

-- the document at a place
pub raised-at : (floors : List ℕ) (documents : List DocumentRecord) (n : ℕ) (d : DocumentRecord) → slice_get documents n ≡ Some d
    → slice_get (raised_each floors documents) n ≡ Some (record d { past = raised (get_or floors n 0) d.past })
raised-at [] documents n d at = at ∙ ap (λ (p : Past). Some (record d { past = p })) (sym (raised_none d.past))
raised-at (floor ∷ floors) [] n d at = absurd (cc)
raised-at (floor ∷ floors) (first ∷ others) zero d at = ap (λ (o : Option DocumentRecord). o) cc
raised-at (floor ∷ floors) (first ∷ others) (suc n) d at = raised-at floors others n d at

pub raised-length : (floors : List ℕ) (documents : List DocumentRecord) → length (raised_each floors documents) ≡ length documents
raised-length [] documents = refl
raised-length (floor ∷ floors) [] = refl
raised-length (floor ∷ floors) (first ∷ others) = ap suc (raised-length floors others)

-- each is one that stood there, from its revision on
pub raised-back : (floors : List ℕ) (documents : List DocumentRecord) (n : ℕ) (found : DocumentRecord) → slice_get (raised_each floors documents) n ≡ Some found
    → (d : DocumentRecord) × (slice_get documents n ≡ Some d) × (found.name ≡ d.name) × ((revision : ℕ) × (found.past ≡ raised revision d.past))
raised-back [] documents n found at = (found, at, refl, (0, sym (raised_none found.past)))
raised-back (floor ∷ floors) [] n found at = absurd (cc)
raised-back (floor ∷ floors) (first ∷ others) zero found at =
    let is : record first { past = raised floor first.past } ≡ found = same_Some (record first { past = raised floor first.past }) found at in
    (first, refl, sym (ap (λ (d : DocumentRecord). d.name) is), (floor, sym (ap (λ (d : DocumentRecord). d.past) is)))
raised-back (floor ∷ floors) (first ∷ others) (suc n) found at = raised-back floors others n found at

pub raised-differ : (floors : List ℕ) (documents : List DocumentRecord) → NamesDiffer documents → NamesDiffer (raised_each floors documents)
raised-differ floors documents differ i j a b here there same =
    let one = raised-back floors documents i a here in
    let other = raised-back floors documents j b there in
    differ i j one.0 other.0 one.1 other.1 (sym one.2 ∙ (same ∙ other.2))

pub raised-is-state : (floors : List ℕ) (state : State) → IsState state → IsState (record state { documents = raised_each floors state.documents })
raised-is-state floors state is = record {
  limits = is.limits;
  count = omega (arith, raised-length floors state.documents, is.count);
  names = raised-differ floors state.documents is.names;
  each = λ n found at.
      let back = raised-back floors state.documents n found at in
      subst (IsPast state.limits) (sym back.3.1) (raised-is-past back.3.0 back.0.past state.limits (is.each n back.0 back.1));
}
