-- How many numbers the windows of sources have in all, once one of them was changed, added or dropped.
use Rattle.std.proofs.Common.{◌≡◌, ℕ, ◌+◌, ◌-◌, ◌*◌, ◌≤◌, ◌<◌, ◌^◌, true, false, cond, List, [], ◌∷◌, ◌++◌, length, map, Some, None, refl, sym, ap, subst, ◌∙◌, arith}
use Rattle.std.proofs.Math.Nat.{mul-add, mul-le-mul_right}
use Rattle.std.specs.Ordering.{eq_by_cmp}
use Rattle.std.specs.FinMap.Entries.{find}
use Rattle.attributes.specs.Map.{by_bytes, get, insert, remove}
use Rattle.attributes.specs.Place.{IsHere}
use Rattle.attributes.proofs.CallerLemmas.{entries-remove}
use Rattle.revision.specs.Name.{is_source_name}
use Rattle.revision.specs.Window.{longest, Window}
use Rattle.revision.specs.Sources.{Sources, total_of, are_named, cut}
use Rattle.revision.specs.State.{Limits, window_weight}
use Rattle.revision.specs.steps.Counting.{numbers_in, too_many_in, Keeps}
use Rattle.revision.proofs.Weights.{counted_of, total-insert}
use Rattle.revision.proofs.Named.{named-insert, named-remove, named-found}
use Rattle.revision.proofs.Cutting.{named-cut}

-- no more than 16 each
pub counted-most : (entries : List (List ℕ × Window)) → total_of too_many_in entries ≡ 0 → total_of numbers_in entries ≤ longest * length entries
counted-most [] none = omega arith
counted-most (e ∷ es) none = let rest = counted-most es (omega (arith, none)) in omega (arith, rest, none)

-- what they weigh
pub weighed : (limits : Limits) (entries : List (List ℕ × Window)) → total_of (window_weight limits) entries
    ≡ (64 - limits.retry) * length entries + limits.retry * total_of numbers_in entries
weighed limits [] = sums (64 - limits.retry) limits.retry
  where
    sums : (base retry : ℕ) → 0 ≡ base * 0 + retry * 0
    sums base retry = omega arith
weighed limits (e ∷ es) =
    let next : length (e ∷ es) ≡ 1 + length es = omega arith in
    sums (64 - limits.retry) limits.retry (limits.retry * length e.1.revisions) (limits.retry * (length e.1.revisions + total_of numbers_in es))
    ((64 - limits.retry) * length es) (limits.retry * total_of numbers_in es) ((64 - limits.retry) * length (e ∷ es)) (total_of (window_weight limits) es)
    (ap (λ n. (64 - limits.retry) * n) next ∙ mul-add (64 - limits.retry) 1 (length es)) (mul-add limits.retry (length e.1.revisions) (total_of numbers_in es)) (weighed limits es)
  where
    sums : (base retry first both count others counts weight : ℕ) → counts ≡ base * 1 + count → both ≡ first + others
        → weight ≡ count + others → base + first + weight ≡ counts + both
    sums base retry first both count others counts weight one two is = omega (arith, one, two, is)

pub weighed-kept : (limits : Limits) (numbers count retry : ℕ) (items entries : List (List ℕ × Window)) → Keeps numbers items → items ≡ entries → count ≡ length items
    → retry ≡ limits.retry → (64 - retry) * count + retry * numbers ≡ total_of (window_weight limits) entries
weighed-kept limits numbers count retry items entries keeps same is same_retry =
    (λ i. (64 - same_retry i) * is i + same_retry i * keeps.counted i) ∙ (sym (weighed limits items) ∙ ap (total_of (window_weight limits)) same)

-- and it fits 128 bits
pub fits-weight : (base retry count numbers : ℕ) → base ≤ 64 → retry ≤ 8 → count < 2 ^ 64 → numbers ≤ longest * count
    → base * count + retry * numbers < 2 ^ 127
fits-weight base retry count numbers low short many most =
    let first : base * count ≤ 64 * count = mul-le-mul_right count low in
    let others : retry * numbers ≤ 8 * numbers = mul-le-mul_right numbers short in
    omega (arith, first, others, many, most)

-- one that stands at a place is no more than all
part-of : (count : Window → ℕ) (before : List (List ℕ × Window)) (entry : List ℕ × Window) (after : List (List ℕ × Window))
    → total_of count (before ++ entry ∷ after) ≡ total_of count (before ++ after) + count entry.1
part-of count [] entry after = omega arith
part-of count (e ∷ es) entry after = let rest = part-of count es entry after in omega (arith, rest)

counted-some : (count : Window → ℕ) (source : List ℕ) (window : Window) (entries : List (List ℕ × Window)) → find by_bytes source entries ≡ Some window
    → count window ≤ total_of count entries
counted-some count source window [] found = absurd (cc)
counted-some count source window (e ∷ es) found =
    elim (eq_by_cmp by_bytes source e.0) as (λ b. cond b (Some e.1) (find by_bytes source es) ≡ Some window → count window ≤ count e.1 + total_of count es) [
      | true ↦ λ is. let same : e.1 ≡ window = cc in omega (arith, ap count same)
      | false ↦ λ is. let rest = counted-some count source window es is in omega (arith, rest)
    ] found

-- what is counted is no less than the numbers of one of them, and no more than 16 for each
pub keeps-some : (numbers : ℕ) (entries : List (List ℕ × Window)) (source : List ℕ) (window : Window) → Keeps numbers entries
    → find by_bytes source entries ≡ Some window → length window.revisions ≤ numbers
keeps-some numbers entries source window keeps found = omega (arith, keeps.counted, counted-some numbers_in source window entries found)

pub keeps-most : (numbers : ℕ) (entries : List (List ℕ × Window)) → Keeps numbers entries → numbers ≤ longest * length entries
keeps-most numbers entries keeps = omega (arith, keeps.counted, counted-most entries keeps.fits)

-- another window
pub keeps-set : (numbers after : ℕ) (sources : Sources) (source : List ℕ) (before window : Window) (items : List (List ℕ × Window)) → Keeps numbers sources.entries
    → get sources source ≡ Some before → length window.revisions ≤ longest → items ≡ (insert sources source window).entries
    → after + length before.revisions ≡ numbers + length window.revisions → Keeps after items
keeps-set numbers after sources source before window items keeps found short is sum =
    let counts = ap (counted_of numbers_in) found in
    let excess = ap (counted_of too_many_in) found in
    let fits : total_of too_many_in (insert sources source window).entries ≡ 0 = omega (arith, keeps.fits, total-insert too_many_in source window sources, short, excess) in
    let counted : after ≡ total_of numbers_in (insert sources source window).entries = omega (arith, keeps.counted, total-insert numbers_in source window sources, sum, counts) in
    subst (Keeps after) (sym is)
    (record {
      named = named-insert source window sources (named-found source before sources.entries keeps.named found) keeps.named;
      fits = fits;
      counted = counted;
    })

-- one more
pub keeps-added : (numbers : ℕ) (sources : Sources) (source : List ℕ) (window : Window) (items : List (List ℕ × Window)) → Keeps numbers sources.entries
    → is_source_name source ≡ true → get sources source ≡ None → length window.revisions ≤ longest → items ≡ (insert sources source window).entries
    → Keeps (numbers + length window.revisions) items
keeps-added numbers sources source window items keeps named none short is =
    let counts = ap (counted_of numbers_in) none in
    let excess = ap (counted_of too_many_in) none in
    let fits : total_of too_many_in (insert sources source window).entries ≡ 0 = omega (arith, keeps.fits, total-insert too_many_in source window sources, short, excess) in
    let counted : numbers + length window.revisions ≡ total_of numbers_in (insert sources source window).entries =
    omega (arith, keeps.counted, total-insert numbers_in source window sources, counts) in
    subst (Keeps (numbers + length window.revisions)) (sym is)
    (record { named = named-insert source window sources named keeps.named; fits = fits; counted = counted })

-- one less
pub keeps-dropped : (numbers after : ℕ) (sources : Sources) (source : List ℕ) (place : ℕ) (items : List (List ℕ × Window)) → Keeps numbers sources.entries
    → (here : IsHere source sources.entries place) → items ≡ (remove sources source).entries
    → after + length here.entry.1.revisions ≡ numbers → Keeps after items
keeps-dropped numbers after sources source place items keeps here is sum =
    let rest : (remove sources source).entries ≡ here.before ++ here.after = entries-remove sources source ∙ here.taken_out in
    let all : (count : Window → ℕ) → total_of count sources.entries ≡ total_of count (remove sources source).entries + count here.entry.1 =
    λ count. ap (total_of count) here.parts ∙ (part-of count here.before here.entry here.after ∙ ap (λ l. total_of count l + count here.entry.1) (sym rest)) in
    let fits : total_of too_many_in (remove sources source).entries ≡ 0 = omega (arith, keeps.fits, all too_many_in) in
    let counted : after ≡ total_of numbers_in (remove sources source).entries = omega (arith, keeps.counted, all numbers_in, sum) in
    subst (Keeps after) (sym is) (record { named = named-remove source sources keeps.named; fits = fits; counted = counted })

-- each with its last number alone
fits-cut : (entries : List (List ℕ × Window)) → total_of too_many_in (map cut entries) ≡ 0
fits-cut [] = refl
fits-cut (e ∷ es) = let rest = fits-cut es in omega (arith, rest)

counted-cut : (entries : List (List ℕ × Window)) → length entries ≡ total_of numbers_in (map cut entries)
counted-cut [] = refl
counted-cut (e ∷ es) = let rest = counted-cut es in omega (arith, rest)

pub keeps-cut : (numbers : ℕ) (entries items : List (List ℕ × Window)) → are_named entries ≡ true → items ≡ map cut entries → numbers ≡ length entries
    → Keeps numbers items
keeps-cut numbers entries items named is count =
    subst (Keeps numbers) (sym is)
    (record { named = named-cut entries ∙ named; fits = fits-cut entries; counted = count ∙ counted-cut entries })

-- what a write at a source's place asks of the count: that of the window there is part of it, and the sum fits
pub keeps-room : (numbers count : ℕ) (entries items : List (List ℕ × Window)) (source : List ℕ) (window : Window) → Keeps numbers items → items ≡ entries
    → find by_bytes source entries ≡ Some window → length items < 2 ^ 64 → count ≤ longest
    → (length window.revisions ≤ numbers) × (numbers + count < 2 ^ 127)
keeps-room numbers count entries items source window keeps same found few short = (
  keeps-some numbers items source window keeps (ap (find by_bytes source) same ∙ found),
  omega (arith, keeps-most numbers items keeps, few, short),
)
