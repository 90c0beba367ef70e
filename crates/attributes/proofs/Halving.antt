-- The search of a name among entries in order: one of them tells whether it stands before that one, or after.
use Rattle.std.proofs.Common.{◌≡◌, ℕ, zero, suc, ◌+◌, ◌<◌, ◌≤◌, ◌⊎◌, inl, inr, List, [], ◌∷◌, length, take, get_or, Some, None, Less, Greater, Equal, sym, ap, ◌∙◌, arith}
use Rattle.std.specs.Prelude.{T, slice_get}
use Rattle.std.proofs.lemmas.Option.{slice_get_cases}
use Rattle.std.specs.Ordering.{is_lt, ordering_reverse}
use Rattle.std.specs.Cmp.Lexicographic.{nat_list_cmp_total}
use Rattle.std.specs.FinMap.Entries.{is_sorted, below_all}
use Rattle.attributes.specs.Map.{by_bytes}
use Rattle.attributes.specs.Place.{IsHere, IsFree, StandsBefore}
use Rattle.attributes.specs.Table.{AllBefore, none_before, one_before}
use Rattle.attributes.proofs.Maps.{same_name, T_parts, less_from}
use Rattle.attributes.proofs.Places.{here_at, free_at, free_end, before_more}

turned : (a b : List ℕ) → by_bytes a b ≡ Less → by_bytes b a ≡ Greater
turned a b lower = nat_list_cmp_total.antisymm b a ∙ ap ordering_reverse lower

module _ {X : Type 0} (name : List ℕ) where
  -- an entry that stands after the first
  below_at : (es : List (List ℕ × X)) (i : ℕ) (e : List ℕ × X) → T (below_all by_bytes name es) → i < length es → e ≡ get_or es i e → by_bytes name e.0 ≡ Less
  below_at [] i e below inside is = absurd (omega (arith, inside))
  below_at (f ∷ es) zero e below inside is =
      let parts = T_parts (is_lt (by_bytes name f.0)) (below_all by_bytes name es) below in
      ap (λ (g : List ℕ × X). by_bytes name g.0) is ∙ less_from (by_bytes name f.0) parts.0
  below_at (f ∷ es) (suc i) e below inside is =
      let parts = T_parts (is_lt (by_bytes name f.0)) (below_all by_bytes name es) below in
      below_at es i e parts.1 (omega (arith, inside)) is

module _ {X : Type 0} (name : List ℕ) where
  -- what stands before an entry stands before a name that what stands before the entry stands before
  before_at : (es : List (List ℕ × X)) (i : ℕ) (e : List ℕ × X) → T (is_sorted by_bytes es) → i < length es → e ≡ get_or es i e
      → ((other : List ℕ) → by_bytes other e.0 ≡ Less → by_bytes other name ≡ Less) → AllBefore name (take i es)
  before_at [] i e sorted inside is lower = absurd (omega (arith, inside))
  before_at (f ∷ es) zero e sorted inside is lower = none_before
  before_at (f ∷ es) (suc i) e sorted inside is lower =
      let parts = T_parts (below_all by_bytes f.0 es) (is_sorted by_bytes es) sorted in
      let here : by_bytes f.0 e.0 ≡ Less = below_at f.0 es i e parts.0 (omega (arith, inside)) is in
      one_before (turned f.0 name (lower f.0 here)) (before_at es i e parts.1 (omega (arith, inside)) is lower)

  module _ (es : List (List ℕ × X)) (i : ℕ) (e : List ℕ × X) (sorted : T (is_sorted by_bytes es)) (inside : i < length es) (is : e ≡ get_or es i e) where
    -- the entry is of the name
    pub here_found : by_bytes name e.0 ≡ Equal → IsHere name es i
    here_found equal =
        let before = before_at es i e sorted inside is (λ other lower. ap (by_bytes other) (same_name name e.0 equal) ∙ lower) in
        here_at name es i sorted before e inside is equal

    -- the entry stands before the name, and so does what stands before it
    pub before_found : by_bytes name e.0 ≡ Greater → AllBefore name (take (i + 1) es)
    before_found greater =
        let lower : by_bytes e.0 name ≡ Less = nat_list_cmp_total.antisymm e.0 name ∙ ap ordering_reverse greater in
        let before = before_at es i e sorted inside is (λ other least. nat_list_cmp_total.trans other e.0 name least lower) in
        before_more name es i sorted before e inside is greater

  -- where nothing is left between the two ends, the name would stand there
  pub free_between : (es : List (List ℕ × X)) (low high : ℕ) → T (is_sorted by_bytes es) → low ≡ high → high ≤ length es
      → AllBefore name (take low es) → StandsBefore name es high → IsFree name es low
  free_between es low high sorted met within before above = by_place (slice_get_cases es low).1 where
    by_place : ((x : List ℕ × X) × (low < length es) × (slice_get es low ≡ Some x) × (get_or es low x ≡ x)) ⊎ ((length es ≤ low) × (slice_get es low ≡ None)) → IsFree name es low
    by_place (inl there) =
        free_at name es low sorted before there.0 there.1 (sym there.3)
        (above there.0 (omega (arith, met, there.1)) (sym there.3 ∙ ap (λ n. get_or es n there.0) met))
    by_place (inr past) = free_end name es low sorted before (omega (arith, past.0, met, within))
