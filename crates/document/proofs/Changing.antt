-- The weight of attributes after a change: what stays of them, and what the change sets.
use Rattle.std.proofs.Common.{◌≡◌, ℕ, ◌+◌, Bool, true, false, cond, List, [], ◌∷◌, Option, Some, None, refl, sym, ap, ◌∙◌, arith, Less, Equal, Greater, sum_by}
use Rattle.std.specs.Prelude.{not, is_some, T}
use Rattle.std.specs.Cmp.Lexicographic.{nat_list_cmp_total}
use Rattle.std.specs.Cmp.{eq_by_cmp_equiv}
use Rattle.std.specs.FinMap.{slice_cmp-IsAntisymmetric, nat_cmp-IsAntisymmetric}
use Rattle.std.specs.FinMap.Entries.{find, put, find-put, where_key, below_all, is_sorted, is_sorted-put}
use Rattle.std.specs.Ordering.{eq_by_cmp, is_eq, is_lt}
use Rattle.std.proofs.lemmas.List.Sums.{sum_by-cons}
use Rattle.attributes.specs.Map.{by_bytes, get, insert, retain}
use Rattle.attributes.specs.Attributes.{Attributes, Changes, changed, changed_by, put_or_remove}
use Rattle.attributes.specs.Laws.{value_after}
use Rattle.attributes.specs.Scalar.{Scalar}
use Rattle.attributes.proofs.CallerLemmas.{get-changed, T_parts, equal_from}
use Rattle.document.specs.Weight.{entries_weight, named_weight, attributes_weight}
use Rattle.document.specs.steps.Weighing.{kept_weight, value_weight, set_weight}

abbrev is_name : List ℕ → List ℕ → Bool
is_name = eq_by_cmp by_bytes

abbrev other_than : List ℕ → List ℕ → Bool
other_than k name = not (is_name k name)

same_name_from : (x y : List ℕ) → is_name x y ≡ true → x ≡ y
same_name_from x y tie = slice_cmp-IsAntisymmetric nat_cmp-IsAntisymmetric x y (equal_from (by_bytes x y) tie)

name_itself : (k : List ℕ) → is_name k k ≡ true
name_itself k = (eq_by_cmp_equiv nat_list_cmp_total).refl k

module _ {X : Type 0} where
  -- a name below all others is not among them
  find_below : (name : List ℕ) (es : List (List ℕ × X)) → T (below_all by_bytes name es) → find by_bytes name es ≡ None
  find_below name [] h = refl
  find_below name (e ∷ es) h =
      let parts = T_parts (is_lt (by_bytes name e.0)) (below_all by_bytes name es) h in
      elim (by_bytes name e.0) as (λ r. T (is_lt r) → cond (is_eq r) (Some e.1) (find by_bytes name es) ≡ None) [
        | Less ↦ λ _. find_below name es parts.1
        | Equal ↦ λ f. absurd f
        | Greater ↦ λ f. absurd f
      ] parts.0

  -- in a list in order the first name stands once
  find_once : (e : List ℕ × X) (es : List (List ℕ × X)) → T (is_sorted by_bytes (e ∷ es)) → (find by_bytes e.0 es ≡ None) × T (is_sorted by_bytes es)
  find_once e es h = let parts = T_parts (below_all by_bytes e.0 es) (is_sorted by_bytes es) h in (find_below e.0 es parts.0, parts.1)

  -- without a name, it is the same whether something was put there
  without_put : (k : List ℕ) (x : X) (es : List (List ℕ × X)) → where_key by_bytes (other_than k) (put by_bytes k x es) ≡ where_key by_bytes (other_than k) es
  without_put k x [] = ap (λ b. cond (not b) ((k, x) ∷ []) []) (name_itself k)
  without_put k x (e ∷ es) =
      elim (by_bytes k e.0) as (λ r. by_bytes k e.0 ≡ r
      → where_key by_bytes (other_than k) (Rattle.std.specs.FinMap.Entries.by_order r ((k, x) ∷ e ∷ es) ((e.0, x) ∷ es) (e ∷ put by_bytes k x es)) ≡ where_key by_bytes (other_than k) (e ∷ es)) [
        | Less ↦ λ _. ap (λ b. cond (not b) ((k, x) ∷ where_key by_bytes (other_than k) (e ∷ es)) (where_key by_bytes (other_than k) (e ∷ es))) (name_itself k)
        | Equal ↦ λ r. ap (λ o. cond (not (is_eq o)) ((e.0, x) ∷ where_key by_bytes (other_than k) es) (where_key by_bytes (other_than k) es)) r
            ∙ sym (ap (λ o. cond (not (is_eq o)) (e ∷ where_key by_bytes (other_than k) es) (where_key by_bytes (other_than k) es)) r)
        | Greater ↦ λ r. ap (λ l. cond (other_than k e.0) (e ∷ l) l) (without_put k x es)
      ] refl

-- a list in order weighs what it weighs without a name, and what stands there
weight_without : (k : List ℕ) (es : List (List ℕ × Scalar)) → T (is_sorted by_bytes es)
    → entries_weight es ≡ entries_weight (where_key by_bytes (other_than k) es) + value_weight k (find by_bytes k es)
weight_without k [] sorted = refl
weight_without k (e ∷ es) sorted =
    let once = find_once e es sorted in
    let rest = weight_without k es once.1 in
    elim (is_name k e.0) as (λ b. is_name k e.0 ≡ b → entries_weight (e ∷ es)
    ≡ entries_weight (cond (not b) (e ∷ where_key by_bytes (other_than k) es) (where_key by_bytes (other_than k) es)) + value_weight k (cond b (Some e.1) (find by_bytes k es))) [
      | true ↦ λ here.
          let is : k ≡ e.0 = same_name_from k e.0 here in
          let none : value_weight k (find by_bytes k es) ≡ 0 = ap (value_weight k) (ap (λ n. find by_bytes n es) is ∙ once.0) in
          let same : named_weight k e.1 ≡ named_weight e.0 e.1 = ap (λ n. named_weight n e.1) is in
          omega (arith, rest, none, same)
      | false ↦ λ other. omega (arith, rest)
    ] refl

-- a value put at a name, or taken from there
weight_put : (m : Attributes) (k : List ℕ) (x : Option Scalar) → attributes_weight (put_or_remove m k x) + value_weight k (get m k) ≡ attributes_weight m + value_weight k x
unfolding insert retain
weight_put m k None = omega (arith, weight_without k m.entries m.ascending)
weight_put m k (Some v) =
    let there : find by_bytes k (put by_bytes k v m.entries) ≡ Some v =
    find-put by_bytes nat_list_cmp_total k k v m.entries ∙ ap (λ b. cond b (Some v) (find by_bytes k m.entries)) (name_itself k) in
    omega (
      arith,
      weight_without k (put by_bytes k v m.entries) (is_sorted-put by_bytes nat_list_cmp_total k v m.entries m.ascending),
      ap entries_weight (without_put k v m.entries),
      ap (value_weight k) there,
      weight_without k m.entries m.ascending,
    )

-- an entry whose name isn't in a list
abbrev kept_by : List (List ℕ × Option Scalar) → List ℕ × Scalar → ℕ
kept_by es f = cond (is_some (find by_bytes f.0 es)) 0 (named_weight f.0 f.1)

-- one name more in the list
kept_more : (e : List ℕ × Option Scalar) (es : List (List ℕ × Option Scalar)) → find by_bytes e.0 es ≡ None
    → (fs : List (List ℕ × Scalar)) → T (is_sorted by_bytes fs) → sum_by (kept_by es) fs ≡ sum_by (kept_by (e ∷ es)) fs + value_weight e.0 (find by_bytes e.0 fs)
kept_more e es new [] sorted = refl
kept_more e es new (f ∷ fs) sorted =
    let once = find_once f fs sorted in
    let rest = kept_more e es new fs once.1 in
    let few = sum_by-cons (kept_by es) f fs in
    let all = sum_by-cons (kept_by (e ∷ es)) f fs in
    let turned : is_name f.0 e.0 ≡ is_name e.0 f.0 = (eq_by_cmp_equiv nat_list_cmp_total).symm f.0 e.0 in
    let now : kept_by (e ∷ es) f ≡ cond (is_some (cond (is_name e.0 f.0) (Some e.1) (find by_bytes f.0 es))) 0 (named_weight f.0 f.1) =
    ap (λ b. cond (is_some (cond b (Some e.1) (find by_bytes f.0 es))) 0 (named_weight f.0 f.1)) turned in
    elim (is_name e.0 f.0) as (λ b. is_name e.0 f.0 ≡ b → kept_by (e ∷ es) f ≡ cond (is_some (cond b (Some e.1) (find by_bytes f.0 es))) 0 (named_weight f.0 f.1)
    → sum_by (kept_by es) (f ∷ fs) ≡ sum_by (kept_by (e ∷ es)) (f ∷ fs) + value_weight e.0 (cond b (Some f.1) (find by_bytes e.0 fs))) [
      | true ↦ λ here gone.
          let is : e.0 ≡ f.0 = same_name_from e.0 f.0 here in
          let none : value_weight e.0 (find by_bytes e.0 fs) ≡ 0 = ap (value_weight e.0) (ap (λ n. find by_bytes n fs) is ∙ once.0) in
          let same : named_weight e.0 f.1 ≡ named_weight f.0 f.1 = ap (λ n. named_weight n f.1) is in
          let before : kept_by es f ≡ named_weight f.0 f.1 =
          ap (λ o. cond (is_some o) 0 (named_weight f.0 f.1)) (ap (λ n. find by_bytes n es) (sym is) ∙ new) in
          omega (arith, few, all, rest, none, same, before, gone)
      | false ↦ λ other stays.
          let same : kept_by (e ∷ es) f ≡ kept_by es f = stays in
          omega (arith, few, all, rest, same)
    ] refl now

changed_by_weight : (a : Attributes) (es : List (List ℕ × Option Scalar)) → T (is_sorted by_bytes es)
    → attributes_weight (changed_by a es) ≡ sum_by (kept_by es) a.entries + sum_by set_weight es
unfolding changed_by
changed_by_weight a [] sorted = all a.entries
  where
    all : (fs : List (List ℕ × Scalar)) → entries_weight fs ≡ sum_by (kept_by []) fs + 0
    all [] = refl
    all (f ∷ fs) = omega (arith, sum_by-cons (kept_by []) f fs, all fs)
changed_by_weight a (e ∷ es) sorted =
    let once = find_once e es sorted in
    let there : get (changed_by a es) e.0 ≡ get a e.0 =
    get-changed a (record { entries = es; ascending = once.1 }) e.0 ∙ ap (λ o. value_after o (get a e.0)) once.0 in
    omega (
      arith,
      weight_put (changed_by a es) e.0 e.1,
      ap (value_weight e.0) there,
      changed_by_weight a es once.1,
      kept_more e es once.0 a.entries a.ascending,
      sum_by-cons set_weight e es,
    )

pub weight_of_changed : (a : Attributes) (c : Changes) → attributes_weight (changed a c) ≡ sum_by (kept_weight c) a.entries + sum_by set_weight c.entries
weight_of_changed a c = changed_by_weight a c.entries c.ascending
