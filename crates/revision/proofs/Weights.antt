-- What sources weigh, and once a command of one of them was noted.
use Rattle.std.proofs.Common.{◌≡◌, ℕ, ◌+◌, ◌-◌, ◌*◌, ◌≤◌, ◌<◌, Bool, true, false, cond, List, [], ◌∷◌, length, Option, Some, None, Less, Equal, Greater, refl, sym, ap, subst, ◌∙◌, arith}
use Rattle.std.specs.Prelude.{T, nat_lt, unwrap_or}
use Rattle.std.proofs.lemmas.Bool.{ltb-true, ltb-false}
use Rattle.std.proofs.Math.Nat.{mul-add}
use Rattle.std.specs.Ordering.{is_lt, is_eq}
use Rattle.std.specs.Cmp.Lexicographic.{nat_list_cmp_total}
use Rattle.std.specs.FinMap.Entries.{find, put, by_order, is_sorted, below_all}
use Rattle.attributes.specs.Map.{by_bytes, get, insert}
use Rattle.attributes.proofs.CallerLemmas.{entries-insert}
use Rattle.revision.specs.Window.{longest, Window, nothing_taken, taken_as}
use Rattle.revision.specs.Sources.{Sources, window_of, total_of, with_taken}
use Rattle.revision.specs.State.{Limits, window_weight, weight_of_sources}
use Rattle.revision.specs.steps.Weighing.{more_weight, Fits}
use Rattle.revision.proofs.Windows.{latest-length}
use Rattle.revision.proofs.Halves.{T_parts, less_from}

-- what was found counts, nothing where there is none
abbrev pub counted_of : (Window → ℕ) → Option Window → ℕ
counted_of count None = 0
counted_of count (Some window) = count window

-- a name below the first of a sorted list isn't found in it
find-below : (name low : List ℕ) (es : List (List ℕ × Window)) → by_bytes name low ≡ Less → T (below_all by_bytes low es) → find by_bytes name es ≡ None
find-below name low [] less below = refl
find-below name low (e ∷ es) less below =
    let parts = T_parts (is_lt (by_bytes low e.0)) (below_all by_bytes low es) below in
    let here : by_bytes name e.0 ≡ Less = nat_list_cmp_total.trans name low e.0 less (less_from (by_bytes low e.0) parts.0) in
    ap (λ r. cond (is_eq r) (Some e.1) (find by_bytes name es)) here ∙ find-below name low es less parts.1

-- what a list with one entry set comes to
total-put : (count : Window → ℕ) (source : List ℕ) (window : Window) (es : List (List ℕ × Window)) → T (is_sorted by_bytes es)
    → total_of count (put by_bytes source window es) + counted_of count (find by_bytes source es) ≡ total_of count es + count window
total-put count source window [] h = omega arith
total-put count source window (e ∷ es) h =
    let parts = T_parts (below_all by_bytes e.0 es) (is_sorted by_bytes es) h in
    elim (by_bytes source e.0) as (λ r. by_bytes source e.0 ≡ r
    → total_of count (by_order r ((source, window) ∷ e ∷ es) ((e.0, window) ∷ es) (e ∷ put by_bytes source window es)) + counted_of count (cond (is_eq r) (Some e.1) (find by_bytes source es))
    ≡ count e.1 + total_of count es + count window) [
      | Less ↦ λ p. subst (λ (found : Option Window). count window + (count e.1 + total_of count es) + counted_of count found ≡ count e.1 + total_of count es + count window)
          (sym (find-below source e.0 es p parts.0)) (omega arith)
      | Equal ↦ λ p. omega arith
      | Greater ↦ λ p. let rest = total-put count source window es parts.1 in omega (arith, rest)
    ] refl

pub total-insert : (count : Window → ℕ) (source : List ℕ) (window : Window) (sources : Sources)
    → total_of count (insert sources source window).entries + counted_of count (get sources source) ≡ total_of count sources.entries + count window
total-insert count source window sources =
    ap (λ (es : List (List ℕ × Window)). total_of count es + counted_of count (get sources source)) (entries-insert sources source window)
    ∙ total-put count source window sources.entries sources.ascending

-- a number more
short-window : (limits : Limits) (window : Window) (number revision : ℕ) → length window.revisions < longest
    → window_weight limits (taken_as number revision window) ≡ window_weight limits window + limits.retry
short-window limits window number revision short =
    let more : length (taken_as number revision window).revisions ≡ length window.revisions + 1 = omega (arith, latest-length window.revisions revision, short) in
    let times : limits.retry * (length window.revisions + 1) ≡ limits.retry * length window.revisions + limits.retry * 1 = mul-add limits.retry (length window.revisions) 1 in
    sums (64 - limits.retry) limits.retry (limits.retry * length (taken_as number revision window).revisions) (limits.retry * length window.revisions)
    (ap (λ n. limits.retry * n) more ∙ times)
  where
    sums : (base retry after before : ℕ) → after ≡ before + retry * 1 → base + after ≡ base + before + retry
    sums base retry after before is = omega (arith, is)

full-window : (limits : Limits) (window : Window) (number revision : ℕ) → length window.revisions ≤ longest → longest ≤ length window.revisions
    → window_weight limits (taken_as number revision window) ≡ window_weight limits window + 0
full-window limits window number revision fits full =
    let same : length (taken_as number revision window).revisions ≡ length window.revisions = omega (arith, latest-length window.revisions revision, fits, full) in
    ap (λ n. 64 - limits.retry + limits.retry * n) same ∙ none (window_weight limits window)
  where
    none : (n : ℕ) → n ≡ n + 0
    none n = omega arith

more-than : (limits : Limits) (found : Option Window) (number revision : ℕ) → limits.retry ≤ 64 → Fits found
    → window_weight limits (taken_as number revision (unwrap_or found nothing_taken)) ≡ counted_of (window_weight limits) found + more_weight limits found
more-than limits None number revision most fits =
    let one : length (taken_as number revision nothing_taken).revisions ≡ 1 = omega (arith, latest-length [] revision) in
    ap (λ n. 64 - limits.retry + limits.retry * n) one ∙ sixty_four limits.retry most
  where
    sixty_four : (n : ℕ) → n ≤ 64 → 64 - n + n * 1 ≡ 0 + 64
    sixty_four n most = omega (arith, most)
more-than limits (Some window) number revision most fits = by_test (nat_lt (length window.revisions) longest) refl
  where
    by_test : (b : Bool) → nat_lt (length window.revisions) longest ≡ b
        → window_weight limits (taken_as number revision window) ≡ window_weight limits window + cond b limits.retry 0
    by_test true is = short-window limits window number revision (ltb-true _ _ is)
    by_test false is = full-window limits window number revision fits (ltb-false _ _ is)

pub weight-noted : (limits : Limits) (source : List ℕ) (number revision : ℕ) (sources : Sources) (found : Option Window) → limits.retry ≤ 64 → found ≡ get sources source
    → Fits found → weight_of_sources limits (with_taken source number revision sources) ≡ weight_of_sources limits sources + more_weight limits found
weight-noted limits source number revision sources found most is fits =
    let next : Window = taken_as number revision (window_of source sources) in
    let total = total-insert (window_weight limits) source next sources in
    let more : window_weight limits next ≡ counted_of (window_weight limits) (get sources source) + more_weight limits found =
    subst (λ (o : Option Window). window_weight limits (taken_as number revision (unwrap_or o nothing_taken)) ≡ counted_of (window_weight limits) o + more_weight limits found) is
    (more-than limits found number revision most fits) in
    sums (weight_of_sources limits (with_taken source number revision sources)) (counted_of (window_weight limits) (get sources source)) (weight_of_sources limits sources) (window_weight limits next) (more_weight limits found)
    total more
  where
    sums : (after old before new more : ℕ) → after + old ≡ before + new → new ≡ old + more → after ≡ before + more
    sums after old before new more is so = omega (arith, is, so)
