-- The list of subscriptions under each change.
use Rattle.std.proofs.Common.{◌≡◌, ◌+◌, ◌-◌, ◌<◌, ◌≤◌, ◌++◌, ℕ, zero, suc, List, [], ◌∷◌, length, take, drop, get_or, Bool, true, false, cond, Option, Some, None, refl, sym, ap, ap₂, subst, ◌∙◌, append_assoc, arith}
use Rattle.std.specs.Prelude.{T, not}
use Rattle.std.specs.Cmp.Lexicographic.{nat_list_cmp_total}
use Rattle.std.specs.FinMap.Entries.{put, is_sorted, below_all, is_sorted-put, is_sorted-where_key}
use Rattle.std.specs.Ordering.{eq_by_cmp, is_lt}
use Rattle.std.specs.List.{remove as list_remove, insert as list_insert}
use Rattle.std.proofs.Math.ListN.{set}
use Rattle.std.proofs.lemmas.List.{take_more, drop_more, set_at, get_or_at, take_at, length-take-le}
use Rattle.attributes.specs.Map.{by_bytes}
use Rattle.attributes.specs.Place.{IsHere, IsFree}
use Rattle.attributes.proofs.CallerLemmas.{set-here, remove-here, insert-free, T_parts, T_both}
use Rattle.session.specs.News.{subscription, going_on}
use Rattle.session.specs.Subscriptions.{Subscriptions, with_subscription, without_subscription}
pub use Rattle.attributes.proofs.CallerLemmas.{compared, read_at}

-- a change at the place of a name
module _ (old list : Subscriptions) (text name : List ℕ) (i : ℕ) (is_list : list ≡ old) (is_name : text ≡ name) where
  pub set_is : IsHere text old i → (e : List ℕ × ℕ) (revision : ℕ) → e ≡ get_or list i e → set list i (e.0, revision) ≡ with_subscription old name revision
  set_is here e revision is =
      ap (λ l. set l i (e.0, revision)) is_list
      ∙ set-here here e revision (subst (λ l. e ≡ get_or l i e) is_list is)
      ∙ ap (λ n. put by_bytes n revision old) is_name

  pub inserted_is : IsFree text old i → (revision : ℕ) → list_insert list i (name, revision) ≡ with_subscription old name revision
  inserted_is free revision =
      ap (λ l. list_insert l i (name, revision)) is_list
      ∙ ap (λ n. list_insert old i (n, revision)) (sym is_name)
      ∙ insert-free free revision
      ∙ ap (λ n. put by_bytes n revision old) is_name

  pub removed_is : IsHere text old i → list_remove list i ≡ without_subscription old name
  removed_is here = ap (λ l. list_remove l i) is_list ∙ remove-here here ∙ ap (without_subscription old) is_name

-- each change keeps the order
pub sorted_with : (old list : Subscriptions) (name : List ℕ) (revision : ℕ) → T (is_sorted by_bytes old) → list ≡ with_subscription old name revision → T (is_sorted by_bytes list)
sorted_with old list name revision sorted is =
    subst (λ l. T (is_sorted by_bytes l)) (sym is) (is_sorted-put by_bytes nat_list_cmp_total name revision old sorted)

pub sorted_without : (old list : Subscriptions) (name : List ℕ) → T (is_sorted by_bytes old) → list ≡ without_subscription old name → T (is_sorted by_bytes list)
sorted_without old list name sorted is =
    subst (λ l. T (is_sorted by_bytes l)) (sym is) (is_sorted-where_key by_bytes (λ other. not (eq_by_cmp by_bytes name other)) old sorted)

pub sorted_if : (old list : Subscriptions) (name : List ℕ) (revision : ℕ) (done : Bool) → T (is_sorted by_bytes old)
    → list ≡ cond done (with_subscription old name revision) old → T (is_sorted by_bytes list)
sorted_if old list name revision true sorted is = sorted_with old list name revision sorted is
sorted_if old list name revision false sorted is = subst (λ l. T (is_sorted by_bytes l)) (sym is) sorted

below_going_on : (name : List ℕ) (old : Subscriptions) (last : List (Option ℕ)) → T (below_all by_bytes name old) → T (below_all by_bytes name (going_on old last))
below_going_on name [] last below = tt
below_going_on name (first ∷ others) [] below = tt
below_going_on name (first ∷ others) (None ∷ more) below = below_going_on name others more (T_parts (is_lt (by_bytes name first.0)) _ below).1
below_going_on name (first ∷ others) (Some revision ∷ more) below =
    let parts = T_parts (is_lt (by_bytes name first.0)) (below_all by_bytes name others) below in
    T_both _ _ parts.0 (below_going_on name others more parts.1)

sorted_going_on : (old : Subscriptions) (last : List (Option ℕ)) → T (is_sorted by_bytes old) → T (is_sorted by_bytes (going_on old last))
sorted_going_on [] last sorted = tt
sorted_going_on (first ∷ others) [] sorted = tt
sorted_going_on (first ∷ others) (None ∷ more) sorted = sorted_going_on others more (T_parts (below_all by_bytes first.0 others) (is_sorted by_bytes others) sorted).1
sorted_going_on (first ∷ others) (Some revision ∷ more) sorted =
    let parts = T_parts (below_all by_bytes first.0 others) (is_sorted by_bytes others) sorted in
    T_both _ _ (below_going_on first.0 others more parts.0) (sorted_going_on others more parts.1)

pub sorted_on : (old list : Subscriptions) (last : List (Option ℕ)) → T (is_sorted by_bytes old) → list ≡ going_on old last → T (is_sorted by_bytes list)
sorted_on old list last sorted is = subst (λ l. T (is_sorted by_bytes l)) (sym is) (sorted_going_on old last sorted)

-- One entry more is done, from the last to the first.
module _ (old items : Subscriptions) (last : List (Option ℕ)) (i : ℕ) (inside : i < length old) (there : i < length last)
    (done : items ≡ take (i + 1) old ++ going_on (drop (i + 1) old) (drop (i + 1) last)) where
  abbrev behind : Subscriptions
  behind = going_on (drop (i + 1) old) (drop (i + 1) last)

  abbrev entry : List ℕ × ℕ
  entry = get_or old i ([], 0)

  parted : items ≡ take i old ++ entry ∷ behind
  parted = done ∙ ap (λ (l : Subscriptions). l ++ behind) (take_more old i ([], 0) inside) ∙ append_assoc (take i old) (entry ∷ []) behind

  from_here : (one : Option ℕ) → one ≡ get_or last i one → going_on (drop i old) (drop i last) ≡ subscription entry.0 one ++ behind
  from_here one is =
      ap₂ going_on (drop_more old i ([], 0) inside) (drop_more last i one there)
      ∙ ap (λ (o : Option ℕ). subscription entry.0 o ++ behind) (sym is)

  pub goes_on_at : (e : List ℕ × ℕ) (revision : ℕ) → e ≡ get_or items i e → Some revision ≡ get_or last i (Some revision)
      → set items i (e.0, revision) ≡ take i old ++ going_on (drop i old) (drop i last)
  goes_on_at e revision read is =
      let at : length (take i old) ≡ i = length-take-le i old (omega arith) in
      let entry_is : e ≡ entry = read ∙ ap (λ l. get_or l i e) parted ∙ get_or_at (take i old) entry behind e i at in
      ap (λ l. set l i (e.0, revision)) parted
      ∙ set_at (take i old) entry behind (e.0, revision) i at
      ∙ ap (λ (f : List ℕ × ℕ). take i old ++ (f.0, revision) ∷ behind) entry_is
      ∙ ap (λ l. take i old ++ l) (sym (from_here (Some revision) is))

  pub ends_at : None ≡ get_or last i None → list_remove items i ≡ take i old ++ going_on (drop i old) (drop i last)
  ends_at is =
      let at : length (take i old) ≡ i = length-take-le i old (omega arith) in
      ap (λ l. list_remove l i) parted
      ∙ ap₂ ◌++◌ (take_at (take i old) (entry ∷ behind) i at) (drop_past (take i old) i at)
      ∙ ap (λ l. take i old ++ l) (sym (from_here None is))
    where
      drop_past : (front : Subscriptions) (n : ℕ) → length front ≡ n → drop (suc n) (front ++ entry ∷ behind) ≡ behind
      drop_past [] zero is_n = refl
      drop_past [] (suc n) is_n = absurd (omega arith)
      drop_past (f ∷ front) zero is_n = absurd (omega arith)
      drop_past (f ∷ front) (suc n) is_n = drop_past front n (omega arith)

-- the same, counted down
module _ (old items : Subscriptions) (last : List (Option ℕ)) (left : ℕ) (some : 0 < left) (within : left ≤ length old) (same : length last ≡ length old)
    (done : items ≡ take left old ++ going_on (drop left old) (drop left last)) where
  up : items ≡ take (left - 1 + 1) old ++ going_on (drop (left - 1 + 1) old) (drop (left - 1 + 1) last)
  up = done ∙ ap (λ n. take n old ++ going_on (drop n old) (drop n last)) (let is : left ≡ left - 1 + 1 = omega arith in is)

  pub goes_on_down : (e : List ℕ × ℕ) (revision : ℕ) → e ≡ get_or items (left - 1) e → Some revision ≡ get_or last (left - 1) (Some revision)
      → set items (left - 1) (e.0, revision) ≡ take (left - 1) old ++ going_on (drop (left - 1) old) (drop (left - 1) last)
  goes_on_down e revision read is = goes_on_at old items last (left - 1) (omega arith) (omega arith) up e revision read is
