-- What is seen of a past that lets go of what lies below its floor.
use Rattle.std.proofs.Common.{◌≡◌, ℕ, zero, suc, ◌+◌, ◌-◌, ◌≤◌, ◌<◌, List, [], ◌∷◌, length, take, drop, get_or, add-one, true, refl, sym, ap, ap₂, subst, ◌∙◌, arith}
use Rattle.std.proofs.lemmas.List.{drop-take, drop-drop, take-take, length-drop, length-take-le}
use Rattle.delta.specs.Element.{Element}
use Rattle.delta.specs.Operation.{Operation}
use Rattle.compose.specs.Many.{applied}
use Rattle.revision.specs.Sources.{Sources, with_taken}
use Rattle.revision.specs.declared.rule.taker.Taker.{Taker}
use Rattle.revision.specs.Past.{Parts, AreParts, AreNoted, Past, Content, Change, LeadInTurn, is_content, taken_content, nexts_by, deltas_of, sources_at, sources_after, changes_by, whole_past, from_floor, seen}
use Rattle.revision.proofs.Replays.{stand-drop}
use Rattle.revision.proofs.Kept.{short-drop}
use Rattle.revision.proofs.Floors.{applied-take, from-from}
use Rattle.revision.proofs.Turning.{nexts-drop}
use Rattle.revision.proofs.KeptDocuments.{kept-later, noted-later, sources-parts, sources-between}
use Rattle.revision.proofs.Parts.{changes-take, changes-drop, changes-length, whole-deltas}

-- the change at a place
pub changes-here : (i : ℕ) (takers : List Taker) (deltas : List (List Operation)) (taker : Taker) (delta : List Operation) → length takers ≡ length deltas
    → i < length deltas → taker ≡ get_or takers i taker → delta ≡ get_or deltas i delta
    → drop i (changes_by takers deltas) ≡ record { source = taker.source; number = taker.number; delta = delta } ∷ drop (suc i) (changes_by takers deltas)
changes-here i [] [] taker delta same there t d = absurd (omega (arith, there))
changes-here i [] (e ∷ deltas) taker delta same there t d = absurd (omega (arith, same))
changes-here i (u ∷ takers) [] taker delta same there t d = absurd (omega (arith, there))
changes-here zero (u ∷ takers) (e ∷ deltas) taker delta same there t d =
    ap₂ (λ (v : Taker) (f : List Operation). record { source = v.source; number = v.number; delta = f } ∷ changes_by takers deltas) (sym t) (sym d)
changes-here (suc i) (u ∷ takers) (e ∷ deltas) taker delta same there t d =
    changes-here i takers deltas taker delta (omega (arith, same)) (omega (arith, there)) t d

-- the sources after the change at a place, and after those that come after it
pub sources-here : (start i : ℕ) (sources : Sources) (takers : List Taker) (deltas : List (List Operation)) (taker : Taker) (delta : List Operation)
    → length takers ≡ length deltas → i < length deltas → taker ≡ get_or takers i taker → delta ≡ get_or deltas i delta
    → sources_after (start + i) sources (drop i (changes_by takers deltas))
    ≡ sources_after (start + i + 1) (with_taken taker.source taker.number (start + i + 1) sources) (drop (i + 1) (changes_by takers deltas))
sources-here start i sources takers deltas taker delta same there t d =
    ap (sources_after (start + i) sources) (changes-here i takers deltas taker delta same there t d)
    ∙ ap (λ n. sources_after (start + i + 1) (with_taken taker.source taker.number (start + i + 1) sources) (drop n (changes_by takers deltas))) (sym (add-one i))

-- the parts once the first changes are let go of
abbrev pub later_parts : Parts → ℕ → Sources → ℕ → Parts
later_parts parts gone sources passed = record {
  start = parts.start + gone;
  floor = parts.floor;
  units = applied parts.units (take gone parts.deltas);
  sources = sources;
  takers = drop gone parts.takers;
  deltas = drop gone parts.deltas;
  count = parts.count - gone;
  kept = drop passed parts.kept;
  live = parts.live;
}

module _ (parts : Parts) (is : AreParts parts) (gone : ℕ) (sources : Sources) (passed : ℕ) (within : gone ≤ parts.floor - parts.start) where
  -- what stands there at the last revision taken is unchanged
  taken-same : taken_content (later_parts parts gone sources passed) ≡ taken_content parts
  taken-same =
      let sum : gone + (parts.count - gone) ≡ parts.count = omega (arith, within, is.start, is.floor) in
      ap (λ u. record { units = u; live = parts.live })
      (applied-take gone (parts.count - gone) parts.units parts.deltas ∙ ap (λ n. applied parts.units (take n parts.deltas)) sum)

  -- what is prepared is unchanged, too
  rest-same : {X : Type 0} (xs : List X) → drop (parts.count - gone) (drop gone xs) ≡ drop parts.count xs
  rest-same xs =
      let sum : gone + (parts.count - gone) ≡ parts.count = omega (arith, within, is.start, is.floor) in
      drop-drop (parts.count - gone) gone xs ∙ ap (λ n. drop n xs) sum

  all : List Change
  all = changes_by parts.takers parts.deltas

  pub later_are : sources ≡ sources_after parts.start parts.sources (changes_by (take gone parts.takers) (take gone parts.deltas))
      → AreParts (later_parts parts gone sources passed)
  later_are sources_is = record {
    stand = stand-drop gone parts.units parts.deltas is.stand;
    short = short-drop gone parts.units parts.deltas is.short;
    same = length-drop gone parts.takers ∙ (ap (λ n. n - gone) is.same ∙ sym (length-drop gone parts.deltas));
    content = subst (λ (c : Content). is_content c ≡ true) (sym taken-same) is.content;
    lead = subst (λ (c : Content). LeadInTurn c (drop (parts.count - gone) (drop gone parts.takers)) (drop (parts.count - gone) (drop gone parts.deltas))) (sym taken-same)
        (subst (λ (t : List Taker). LeadInTurn (taken_content parts) t (drop (parts.count - gone) (drop gone parts.deltas))) (sym (rest-same parts.takers))
        (subst (LeadInTurn (taken_content parts) (drop parts.count parts.takers)) (sym (rest-same parts.deltas)) is.lead));
    count = omega (arith, is.count, length-drop gone parts.deltas);
    start = omega (arith, within, is.start);
    floor = omega (arith, within, is.start, is.floor);
    held = omega (arith, within, is.start, is.floor, is.held);
    revision = omega (arith, within, is.start, is.floor, is.count, length-drop gone parts.deltas, is.revision);
    kept = kept-later parts.start parts.count gone passed parts.units parts.deltas parts.kept (omega (arith, within, is.start, is.floor)) is.kept;
    noted = subst (λ (l : List Change). AreNoted (parts.start + gone) sources l (drop passed parts.kept)) (sym (changes-drop gone parts.takers parts.deltas))
        (subst (λ (s : Sources). AreNoted (parts.start + gone) s (drop gone (changes_by parts.takers parts.deltas)) (drop passed parts.kept))
        (sym (sources_is ∙ ap (sources_after parts.start parts.sources) (changes-take gone parts.takers parts.deltas)))
        (noted-later parts.start gone passed parts.sources (changes_by parts.takers parts.deltas) parts.kept
        (omega (arith, within, is.start, is.floor, is.count, changes-length parts.takers parts.deltas is.same)) is.noted));
  }

  -- the changes that are left, of those taken
  left : (whole_past (later_parts parts gone sources passed)).changes ≡ drop gone (whole_past parts).changes
  unfolding all
  left =
      let sum : parts.count ≡ gone + (parts.count - gone) = omega (arith, within, is.start, is.floor) in
      ap (take (parts.count - gone)) (changes-drop gone parts.takers parts.deltas)
      ∙ (sym (drop-take gone (parts.count - gone) (changes_by parts.takers parts.deltas)) ∙ ap (λ n. drop gone (take n (changes_by parts.takers parts.deltas))) (sym sum))

  prepared : (seen (later_parts parts gone sources passed)).next ≡ (seen parts).next
  prepared = ap (drop (parts.count - gone)) (nexts-drop gone parts.takers parts.deltas is.same) ∙ rest-same (nexts_by parts.takers parts.deltas)

  module _ (noted : sources_after (parts.start + gone) sources (drop gone (changes_by (take (parts.floor - parts.start) parts.takers) (take (parts.floor - parts.start) parts.deltas)))
      ≡ sources_after parts.start parts.sources (changes_by (take (parts.floor - parts.start) parts.takers) (take (parts.floor - parts.start) parts.deltas))) where
    exact : Past
    exact = from_floor (whole_past parts) (parts.start + gone)

    but_sources : (record (whole_past (later_parts parts gone sources passed)) { sources = exact.sources }) ≡ exact
    unfolding exact
    but_sources =
        let here : parts.start + gone - parts.start ≡ gone = omega arith in
        ap₂ (λ (u : List Element) (l : List Change). record { floor = parts.start + gone; content = record { units = u; live = parts.live }; sources = exact.sources; changes = l })
        (ap (applied parts.units) (sym (take-take gone parts.count parts.deltas (omega (arith, within, is.start, is.floor))))
        ∙ (ap (λ l. applied parts.units (take gone l)) (sym (whole-deltas parts is)) ∙ ap (λ n. applied parts.units (take n (deltas_of (whole_past parts)))) (sym here)))
        (left ∙ ap (λ n. drop n (whole_past parts).changes) (sym here))

    from_there : from_floor (record (whole_past (later_parts parts gone sources passed)) { sources = exact.sources }) parts.floor ≡ from_floor (whole_past parts) parts.floor
    unfolding exact
    from_there = ap (λ (p : Past). from_floor p parts.floor) but_sources ∙ from-from (whole_past parts) (parts.start + gone) (omega arith) parts.floor (omega (arith, within, is.start))

    sources_there : sources_at (whole_past (later_parts parts gone sources passed)) parts.floor ≡ sources_at (whole_past parts) parts.floor
    unfolding all
    sources_there =
        let below : ℕ = parts.floor - parts.start in
        let more : ℕ = parts.floor - (parts.start + gone) in
        let changes : List Change = changes_by parts.takers parts.deltas in
        let sum : gone + more ≡ below = omega (arith, within, is.start) in
        let fewer = take-take below parts.count changes (omega (arith, is.floor)) in
        let cut : take more (whole_past (later_parts parts gone sources passed)).changes ≡ drop gone (take below changes) =
        ap (take more) left ∙ (sym (drop-take gone more (take parts.count changes)) ∙ (ap (λ n. drop gone (take n (take parts.count changes))) sum ∙ ap (drop gone) fewer)) in
        let first = changes-take below parts.takers parts.deltas in
        ap (sources_after (parts.start + gone) sources) (cut ∙ ap (drop gone) (sym first))
        ∙ (noted ∙ ap (sources_after parts.start parts.sources) (first ∙ sym fewer))

    pub later_is : seen (later_parts parts gone sources passed) ≡ seen parts
    later_is = λ i. record {
      past = record {
        floor = parts.floor;
        content = (from_there i).content;
        sources = sources_there i;
        changes = (from_there i).changes;
      };
      next = prepared i;
    }

-- the sources after the changes that are let go of, and after those between them and the floor
pub noted_there : (parts : Parts) → AreParts parts → (gone : ℕ) (sources : Sources) → gone ≤ parts.floor - parts.start
    → sources ≡ sources_after parts.start parts.sources (changes_by (take gone parts.takers) (take gone parts.deltas))
    → sources_after (parts.start + gone) sources (drop gone (changes_by (take (parts.floor - parts.start) parts.takers) (take (parts.floor - parts.start) parts.deltas)))
    ≡ sources_after parts.start parts.sources (changes_by (take (parts.floor - parts.start) parts.takers) (take (parts.floor - parts.start) parts.deltas))
noted_there parts is gone sources within sources_is =
    let below : ℕ = parts.floor - parts.start in
    let changes : List Change = changes_by parts.takers parts.deltas in
    let some : List Change = changes_by (take below parts.takers) (take below parts.deltas) in
    let some_is : some ≡ take below changes = changes-take below parts.takers parts.deltas in
    let front : take gone some ≡ changes_by (take gone parts.takers) (take gone parts.deltas) =
    ap (take gone) some_is ∙ (take-take gone below changes within ∙ sym (changes-take gone parts.takers parts.deltas)) in
    let long : below ≤ length changes = omega (arith, changes-length parts.takers parts.deltas is.same, is.count, is.floor) in
    ap (λ (s : Sources). sources_after (parts.start + gone) s (drop gone some)) (sources_is ∙ ap (sources_after parts.start parts.sources) (sym front))
    ∙ sources-parts gone parts.start (parts.start + gone) parts.sources some refl (omega (arith, within, ap length some_is, length-take-le below changes long))

-- the sources after the first changes, by those at a revision among them
pub noted_since : (start from count : ℕ) (sources base : Sources) (takers : List Taker) (deltas : List (List Operation)) → length takers ≡ length deltas → count ≤ length deltas
    → start ≤ from → from ≤ start + count → base ≡ sources_after start sources (take (from - start) (changes_by takers deltas))
    → sources_after from base (changes_by (take (count - (from - start)) (drop (from - start) takers)) (take (count - (from - start)) (drop (from - start) deltas)))
    ≡ sources_after start sources (changes_by (take count takers) (take count deltas))
noted_since start from count sources base takers deltas same within above below base_is =
    let first : ℕ = from - start in
    let more : ℕ = count - first in
    let all : List Change = changes_by takers deltas in
    let left : start + count - from ≡ more = omega (arith, above, below) in
    let whole : start + count - start ≡ count = omega arith in
    ap₂ (λ (s : Sources) (l : List Change). sources_after from s l) base_is
    (changes-take more (drop first takers) (drop first deltas) ∙ (ap (take more) (changes-drop first takers deltas) ∙ ap (λ n. take n (drop first all)) (sym left)))
    ∙ (sources-between start first from (start + count) sources all (omega (arith, above)) (omega (arith, above, below, within, changes-length takers deltas same)) below
    ∙ ap (sources_after start sources) (ap (λ n. take n all) whole ∙ sym (changes-take count takers deltas)))
