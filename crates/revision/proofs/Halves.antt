-- Halving a sorted list in the search of a name.
use Rattle.std.proofs.Common.{◌≡◌, ℕ, zero, suc, ◌<◌, ◌≤◌, ◌⊎◌, inl, inr, true, false, List, [], ◌∷◌, length, take, get_or, Some, None, Less, Greater, Equal, refl, sym, ap, ◌∙◌, arith}
use Rattle.std.specs.Prelude.{T, slice_get}
use Rattle.std.proofs.lemmas.Option.{slice_get_cases}
use Rattle.std.proofs.lemmas.Bool.{false≢true}
use Rattle.attributes.specs.Place.{IsHere, IsFree}
use Rattle.std.specs.Ordering.{is_lt, ordering_reverse, nat_cmp}
use Rattle.std.specs.Cmp.{Equal-is}
use Rattle.std.specs.Cmp.Lexicographic.{nat_list_cmp_total, slice_partial_cmp, lists_agrees, texts_ties}
use Rattle.std.specs.FinMap.Entries.{is_sorted, below_all}
use Rattle.attributes.specs.Map.{by_bytes}
use Rattle.attributes.specs.Table.{AllBefore, none_before, one_before}
use Rattle.attributes.proofs.CallerLemmas.{same_name, here_at, free_at, free_end}
use Rattle.revision.specs.Window.{Window}
use Rattle.revision.specs.steps.NameAt.{has_name}
pub use Rattle.attributes.proofs.CallerLemmas.{T_parts, compared, less_from, read_at}

-- bytes can always be compared
pub bytes_compared : (one other : List ℕ) → slice_partial_cmp (λ x y. Some (nat_cmp x y)) one other ≡ Some (by_bytes one other)
bytes_compared one other = lists_agrees {R = nat_cmp} (λ x y. refl) one other

-- the entry at this place, where there is one, stands after the name
abbrev pub AboveAt : {X : Type 0} → List ℕ → List (List ℕ × X) → ℕ → Type 0
AboveAt {X} name es i = (e : List ℕ × X) → i < length es → e ≡ get_or es i e → by_bytes name e.0 ≡ Less

-- an entry that stands after the first
below-at : {X : Type 0} (name : List ℕ) (es : List (List ℕ × X)) (i : ℕ) (e : List ℕ × X) → T (below_all by_bytes name es) → i < length es → e ≡ get_or es i e
    → by_bytes name e.0 ≡ Less
below-at name [] i e below inside is = absurd (omega (arith, inside))
below-at name (f ∷ es) zero e below inside is =
    let parts = T_parts (is_lt (by_bytes name f.0)) (below_all by_bytes name es) below in
    ap (λ (g : List ℕ × _). by_bytes name g.0) is ∙ less_from (by_bytes name f.0) parts.0
below-at name (f ∷ es) (suc i) e below inside is =
    let parts = T_parts (is_lt (by_bytes name f.0)) (below_all by_bytes name es) below in
    below-at name es i e parts.1 (omega (arith, inside)) is

turned : (a b : List ℕ) → by_bytes a b ≡ Less → by_bytes b a ≡ Greater
turned a b h = nat_list_cmp_total.antisymm b a ∙ ap ordering_reverse h

-- what stands before an entry that the name comes after, or that is the name, stands before the name
pub before-at : {X : Type 0} (name : List ℕ) (es : List (List ℕ × X)) (i : ℕ) (e : List ℕ × X) → T (is_sorted by_bytes es) → i < length es → e ≡ get_or es i e
    → ((f : List ℕ) → by_bytes f e.0 ≡ Less → by_bytes f name ≡ Less) → AllBefore name (take i es)
before-at name [] i e sorted inside is lower = absurd (omega (arith, inside))
before-at name (f ∷ es) zero e sorted inside is lower = none_before
before-at name (f ∷ es) (suc i) e sorted inside is lower =
    let parts = T_parts (below_all by_bytes f.0 es) (is_sorted by_bytes es) sorted in
    let here : by_bytes f.0 e.0 ≡ Less = below-at f.0 es i e parts.0 (omega (arith, inside)) is in
    one_before (turned f.0 name (lower f.0 here)) (before-at name es i e parts.1 (omega (arith, inside)) is lower)

pub before-equal : {X : Type 0} (name : List ℕ) (es : List (List ℕ × X)) (i : ℕ) (e : List ℕ × X) → T (is_sorted by_bytes es) → i < length es → e ≡ get_or es i e
    → by_bytes name e.0 ≡ Equal → AllBefore name (take i es)
before-equal name es i e sorted inside is equal =
    before-at name es i e sorted inside is (λ f lower. ap (by_bytes f) (same_name name e.0 equal) ∙ lower)

pub before-greater : {X : Type 0} (name : List ℕ) (es : List (List ℕ × X)) (i : ℕ) (e : List ℕ × X) → T (is_sorted by_bytes es) → i < length es → e ≡ get_or es i e
    → by_bytes name e.0 ≡ Greater → AllBefore name (take i es)
before-greater name es i e sorted inside is greater =
    before-at name es i e sorted inside is
    (λ f lower. nat_list_cmp_total.trans f e.0 name lower (nat_list_cmp_total.antisymm e.0 name ∙ ap ordering_reverse greater))

-- where nothing is left between the two ends, the name would stand there
pub free_between : {X : Type 0} (name : List ℕ) (es : List (List ℕ × X)) (low high : ℕ) → T (is_sorted by_bytes es) → low ≡ high → high ≤ length es
    → AllBefore name (take low es) → AboveAt name es high → IsFree name es low
free_between {X} name es low high sorted met within before above = by_place (slice_get_cases es low).1 where
  by_place : ((x : List ℕ × X) × (low < length es) × (slice_get es low ≡ Some x) × (get_or es low x ≡ x)) ⊎ ((length es ≤ low) × (slice_get es low ≡ None)) → IsFree name es low
  by_place (inl there) =
      free_at name es low sorted before there.0 there.1 (sym there.3)
      (above there.0 (omega (arith, met, there.1)) (sym there.3 ∙ ap (λ n. get_or es n there.0) met))
  by_place (inr past) = free_end name es low sorted before (omega (arith, past.0, met, within))

-- where an entry is of the name, the name stands there
pub here_named : (name : List ℕ) (es : List (List ℕ × Window)) (i : ℕ) → T (is_sorted by_bytes es) → has_name name (slice_get es i) ≡ true → IsHere name es i
here_named name es i sorted named = by_place (slice_get_cases es i).1 where
  by_place : ((x : List ℕ × Window) × (i < length es) × (slice_get es i ≡ Some x) × (get_or es i x ≡ x)) ⊎ ((length es ≤ i) × (slice_get es i ≡ None)) → IsHere name es i
  by_place (inl there) =
      let e = there.0 in
      let ties : has_name name (Some e) ≡ true = sym (ap (has_name name) there.2) ∙ named in
      let equal : by_bytes name e.0 ≡ Equal = (Equal-is (by_bytes name e.0)).0 (sym (texts_ties name e.0) ∙ ties) in
      here_at name es i sorted (before-equal name es i e sorted there.1 (sym there.3) equal) e there.1 (sym there.3) equal
  by_place (inr past) = absurd (false≢true (sym (ap (has_name name) past.1) ∙ named))
