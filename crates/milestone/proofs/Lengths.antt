-- The lengths of the inserts and the deltas that a revision is made of.
use Rattle.std.proofs.Common.{◌≡◌, ℕ, suc, ◌+◌, ◌-◌, ◌*◌, ◌≤◌, ◌^◌, List, [], ◌∷◌, length, take, sym, ap, subst, length-append, arith}
use Rattle.std.specs.Prelude.{◌<◌}
use Rattle.std.proofs.lemmas.List.{length-map}
use Rattle.delta.specs.Element.{Element}
use Rattle.delta.specs.Operation.{Operation, base_of, out_of}
use Rattle.delta.specs.Gaps.{End, counted, apply}
use Rattle.delta.specs.Normal.{nf}
use Rattle.delta.proofs.CallerLemmas.{apply-nf, base_of-nf, length-apply_counted, units_below-counted}
use Rattle.document.specs.Weight as document
use Rattle.compose.specs.Many.{applied, lengths_of}
use Rattle.revision.specs.Past.{Past, Change, StandInTurn, StayShort, newest, content_at, sources_at, deltas_of, deltas_above}
use Rattle.revision.specs.Sources.{Sources}
use Rattle.revision.specs.Replay.{IsReplay}
use Rattle.revision.specs.State.{Limits, weight_of}
use Rattle.revision.specs.Invariants.{IsLimits, IsPast}
use Rattle.milestone.specs.Job.{KeepLengths}
use Rattle.milestone.specs.Law.{PastsKeepLengths}
use Rattle.revision.proofs.CallerLemmas.{short-first}
use Rattle.milestone.proofs.InTurn.{lengths-drop, lengths-take}

-- each unit weighs 12 and more
heavy : (units : List Element) → 12 * length units ≤ document.weight_of units
heavy [] = omega arith
heavy (x ∷ units) = omega (arith, heavy units)

-- so a document of a weight below 2^32 is short
light_is_short : (limits : Limits) (units : List Element) (sources : Sources) → weight_of limits units sources < 2 ^ 32 → length units ≤ 2 ^ 29
light_is_short limits units sources light = omega (arith, heavy units, light)

-- the delta that makes a document of the empty one has no more units
inserts_short : (units : List Element) → length units ≤ 2 ^ 29 → base_of (nf (End units)) + out_of (nf (End units)) ≤ 2 ^ 29
inserts_short units short =
    omega (
      arith,
      short,
      base_of-nf (End units),
      length-apply_counted [] (nf (End units)) (base_of-nf (End units)),
      ap length (apply-nf [] (End units)),
      length-append units [],
    )

-- a delta that stands on a short document and leaves one has short lengths
lengths_in_turn : (units : List Element) (deltas : List (List Operation)) → StandInTurn units deltas → StayShort units deltas
    → lengths_of deltas ≤ 2 ^ 30 * length deltas
lengths_in_turn units [] stand short = omega arith
lengths_in_turn units (taken ∷ others) stand short =
    let base : base_of taken ≤ length units = omega (arith, stand.0.0, units_below-counted taken) in
    omega (
      arith,
      base,
      short.0,
      length-apply_counted units taken base,
      short-first (apply units (counted taken)) others short.1,
      lengths_in_turn (apply units (counted taken)) others stand.1 short.1,
    )

-- where the document is short after each count of them, it stays short
stays_short : (units : List Element) (deltas : List (List Operation))
    → ((count : ℕ) → count ≤ length deltas → length (applied units (take count deltas)) ≤ 2 ^ 29) → StayShort units deltas
stays_short units [] short = short 0 (omega arith)
stays_short units (taken ∷ others) short =
    (short 0 (omega arith), stays_short (apply units (counted taken)) others (λ count within. short (suc count) (omega (arith, within))))

module _ (limits : Limits) (past : Past) (ranges : IsLimits limits) (keeps : IsPast limits past) where
  count_of_deltas : length (deltas_of past) ≡ length past.changes
  count_of_deltas = length-map past.changes (λ (change : Change). change.delta)

  -- a document is short at each revision that is held
  short_at : (revision : ℕ) → past.floor ≤ revision → revision ≤ newest past → length (content_at past revision).units ≤ 2 ^ 29
  short_at revision held there =
      light_is_short limits (content_at past revision).units (sources_at past revision) (omega (arith, (keeps.each revision held there).weight, ranges.weight))

  short_after : (count : ℕ) → count ≤ length (deltas_of past) → length (applied past.content.units (take count (deltas_of past))) ≤ 2 ^ 29
  short_after count within =
      let same : past.floor + count - past.floor ≡ count = omega arith in
      subst (λ n. length (applied past.content.units (take n (deltas_of past))) ≤ 2 ^ 29) same
      (short_at (past.floor + count) (omega arith) (omega (arith, within, count_of_deltas)))

  all_lengths : lengths_of (deltas_of past) ≤ 2 ^ 46
  all_lengths =
      omega (
        arith,
        lengths_in_turn past.content.units (deltas_of past) keeps.stand (stays_short past.content.units (deltas_of past) short_after),
        count_of_deltas,
        keeps.count,
        ranges.keep,
      )

  -- so a job may have the inserts of what stands at a base, and the deltas from there
  replay_lengths : (revision : ℕ) (units : List Element) (deltas : List (List Operation)) → revision ≤ newest past → IsReplay past revision units deltas
      → KeepLengths (nf (End units)) deltas
  replay_lengths revision units deltas there is =
      omega (
        arith,
        inserts_short units (subst (λ (u : List Element). length u ≤ 2 ^ 29) (sym is.content) (short_at is.base is.held (omega (arith, is.below, there)))),
        ap lengths_of is.between,
        lengths-take (revision - is.base) (deltas_above past is.base),
        lengths-drop (is.base - past.floor) (deltas_of past),
        all_lengths,
      )

pub pasts_keep_lengths : PastsKeepLengths
pasts_keep_lengths limits past revision units deltas ranges keeps there is = replay_lengths limits past ranges keeps revision units deltas there is
