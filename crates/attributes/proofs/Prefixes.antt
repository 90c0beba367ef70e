-- The first entries of a map, and each operation as it comes over them, entry by entry.
use Rattle.std.proofs.Common.{◌≡◌, ℕ, suc, ◌+◌, ◌<◌, ◌≤◌, Bool, true, false, cond, List, [], ◌∷◌, ◌++◌, length, take, drop, get_or, Option, Some, None, refl, sym, ap, subst, ◌∙◌, Less, Greater, add-one, drop-cons, arith}
use Rattle.std.proofs.Math.Seq.{take-length}
use Rattle.std.proofs.lemmas.List.{take-append-drop, take_more}
use Rattle.std.specs.Prelude.{T, ◌&&◌}
use Rattle.std.specs.Cmp.Lexicographic.{nat_list_cmp_total}
use Rattle.std.specs.FinMap.Entries.{find, find-append, is_sorted, below_all}
use Rattle.std.specs.Ordering.{is_lt, ordering_reverse}
use Rattle.attributes.specs.Attributes.{Attributes, Changes, changed, changed_by, put_or_remove, reverted, reverted_by, same_option}
use Rattle.attributes.specs.Laws.{first_of, value_after, value_back, with_entries}
use Rattle.attributes.specs.Map.{Map, by_bytes, get, contains, empty, insert, insert_all, overwritten, without, same_entries_map}
use Rattle.attributes.specs.Scalar.{Scalar}
use Rattle.attributes.proofs.AtEachName.{get-changed, get-reverted, get-put_or_remove, after_cond}
use Rattle.attributes.proofs.Maps.{is_name, same_map, get-insert, get-overwritten, get-without, first_cond, T_parts, less_from, same_name_from}

pub T_both : (a b : Bool) → T a → T b → T (a && b)
T_both true b p q = q
T_both false b p q = p

below_all-front : {X : Type 0} (name : List ℕ) (before rest : List (List ℕ × X)) → T (below_all by_bytes name (before ++ rest)) → T (below_all by_bytes name before)
below_all-front name [] rest below = tt
below_all-front name (e ∷ before) rest below =
    let parts = T_parts (is_lt (by_bytes name e.0)) (below_all by_bytes name (before ++ rest)) below in
    T_both (is_lt (by_bytes name e.0)) (below_all by_bytes name before) parts.0 (below_all-front name before rest parts.1)

is_sorted-front : {X : Type 0} (before rest : List (List ℕ × X)) → T (is_sorted by_bytes (before ++ rest)) → T (is_sorted by_bytes before)
is_sorted-front [] rest sorted = tt
is_sorted-front (e ∷ before) rest sorted =
    let parts = T_parts (below_all by_bytes e.0 (before ++ rest)) (is_sorted by_bytes (before ++ rest)) sorted in
    T_both (below_all by_bytes e.0 before) (is_sorted by_bytes before) (below_all-front e.0 before rest parts.0) (is_sorted-front before rest parts.1)

pub below_last : {X : Type 0} (name : List ℕ) (before : List (List ℕ × X)) (e : List ℕ × X) → T (below_all by_bytes name (before ++ e ∷ [])) → by_bytes name e.0 ≡ Less
below_last name [] e below = less_from (by_bytes name e.0) (T_parts (is_lt (by_bytes name e.0)) true below).0
below_last name (f ∷ before) e below =
    below_last name before e (T_parts (is_lt (by_bytes name f.0)) (below_all by_bytes name (before ++ e ∷ [])) below).1

-- the last name doesn't stand before
find_last : {X : Type 0} (before : List (List ℕ × X)) (e : List ℕ × X) → T (is_sorted by_bytes (before ++ e ∷ [])) → find by_bytes e.0 before ≡ None
find_last [] e sorted = refl
find_last (f ∷ before) e sorted =
    let parts = T_parts (below_all by_bytes f.0 (before ++ e ∷ [])) (is_sorted by_bytes (before ++ e ∷ [])) sorted in
    let above : by_bytes e.0 f.0 ≡ Greater = nat_list_cmp_total.antisymm e.0 f.0 ∙ ap ordering_reverse (below_last f.0 before e parts.0) in
    rw above (find_last before e parts.1)

module _ {X : Type 0} where
  pub sorted_prefix : (m : Map X) (i : ℕ) → T (is_sorted by_bytes (take i m.entries))
  sorted_prefix m i = is_sorted-front (take i m.entries) (drop i m.entries) (subst (λ l. T (is_sorted by_bytes l)) (sym (take-append-drop i m.entries)) m.ascending)

  -- the first i entries
  abbrev pub prefix : Map X → ℕ → Map X
  prefix m i = record { entries = take i m.entries; ascending = sorted_prefix m i }

  pub prefix-none : (m n : Map X) → n.entries ≡ [] → n ≡ prefix m 0
  prefix-none m n none = same_entries_map n (prefix m 0) none

  pub prefix-all : (m : Map X) (i : ℕ) → i ≡ length m.entries → prefix m i ≡ m
  prefix-all m i all = same_entries_map (prefix m i) m (ap (λ n. take n m.entries) all ∙ take-length m.entries)

  module _ (m : Map X) (i : ℕ) (e : List ℕ × X) (inside : i < length m.entries) (is : e ≡ get_or m.entries i e) where
    one_more : take (i + 1) m.entries ≡ take i m.entries ++ e ∷ []
    one_more = take_more m.entries i e inside ∙ ap (λ y. take i m.entries ++ y ∷ []) (sym is)

    pub get-prefix-absent : get (prefix m i) e.0 ≡ None
    get-prefix-absent = find_last (take i m.entries) e (subst (λ l. T (is_sorted by_bytes l)) one_more (sorted_prefix m (i + 1)))

    pub get-prefix-more : (name : List ℕ) → get (prefix m (i + 1)) name ≡ cond (is_name name e.0) (Some e.1) (get (prefix m i) name)
    get-prefix-more name = ap (find by_bytes name) one_more ∙ find-append by_bytes nat_list_cmp_total (take i m.entries) e.0 e.1 name get-prefix-absent

    pub insert-prefix : insert (prefix m i) e.0 e.1 ≡ prefix m (i + 1)
    insert-prefix = same_map _ _ (λ name. get-insert (prefix m i) e.0 e.1 name ∙ sym (get-prefix-more name))

    -- one more entry over another map
    pub overwritten-more : (first : Map X) → insert (overwritten first (prefix m i)) e.0 e.1 ≡ overwritten first (prefix m (i + 1))
    overwritten-more first =
        same_map _ _ (λ name.
        get-insert (overwritten first (prefix m i)) e.0 e.1 name
        ∙ (ap (cond (is_name name e.0) (Some e.1)) (get-overwritten first (prefix m i) name)
        ∙ (first_cond (is_name name e.0) e.1 (get (prefix m i) name) (get first name)
        ∙ (ap (λ o. first_of o (get first name)) (sym (get-prefix-more name)) ∙ sym (get-overwritten first (prefix m (i + 1)) name)))))

    without_cond : {Y : Type 0} (n : Map Y) (name : List ℕ) (here : Bool) → is_name name e.0 ≡ here
        → (p : Option X) → cond (contains n e.0) (cond (contains n name) None p) (cond here (Some e.1) (cond (contains n name) None p)) ≡ cond (contains n name) None (cond here (Some e.1) p)
    without_cond n name true here p =
        rw (same_name_from name e.0 here) (elim (contains n e.0) as (λ c. cond c (cond c None p) (Some e.1) ≡ cond c None (Some e.1)) [ true ↦ refl | false ↦ refl ])
    without_cond n name false here p =
        elim (contains n e.0) as (λ c. cond c (cond (contains n name) None p) (cond (contains n name) None p) ≡ cond (contains n name) None p) [ true ↦ refl | false ↦ refl ]

    choice : (t : Bool) (u v : Map X) (name : List ℕ) → get (cond t u v) name ≡ cond t (get u name) (get v name)
    choice true u v name = refl
    choice false u v name = refl

    -- one more entry, unless another map has its name
    pub without-more : {Y : Type 0} (n : Map Y) → cond (contains n e.0) (without (prefix m i) n) (insert (without (prefix m i) n) e.0 e.1) ≡ without (prefix m (i + 1)) n
    without-more n =
        same_map _ _ (λ name.
        choice (contains n e.0) (without (prefix m i) n) (insert (without (prefix m i) n) e.0 e.1) name
        ∙ (ap (cond (contains n e.0) (get (without (prefix m i) n) name)) (get-insert (without (prefix m i) n) e.0 e.1 name)
        ∙ (ap (λ o. cond (contains n e.0) o (cond (is_name name e.0) (Some e.1) o)) (get-without (prefix m i) n name)
        ∙ (without_cond n name (is_name name e.0) refl (get (prefix m i) name)
        ∙ (ap (cond (contains n name) None) (sym (get-prefix-more name)) ∙ sym (get-without (prefix m (i + 1)) n name))))))

-- all entries, put into the map without one
with_entries-rest : {X : Type 0} (m : Map X) (rest : List (List ℕ × X)) (i : ℕ) → i + length rest ≡ length m.entries → drop i m.entries ≡ rest → with_entries (prefix m i) rest ≡ m
with_entries-rest m [] i all left = prefix-all m i (omega arith)
with_entries-rest m (e ∷ es) i all left =
    let inside : i < length m.entries = omega arith in
    let here : drop i m.entries ≡ get_or m.entries i e ∷ drop (suc i) m.entries = drop-cons m.entries i e inside in
    let is : e ≡ get_or m.entries i e = cc in
    let others : drop (suc i) m.entries ≡ es = cc in
    let next : drop (i + 1) m.entries ≡ es = rw add-one others in
    ap (λ n. with_entries n es) (insert-prefix m i e inside is) ∙ with_entries-rest m es (i + 1) (omega arith) next

pub with_entries-all : {X : Type 0} (m : Map X) → with_entries empty m.entries ≡ m
with_entries-all m = ap (λ n. with_entries n m.entries) (prefix-none m empty refl) ∙ with_entries-rest m m.entries 0 (omega arith) refl

module _ (a : Attributes) (c : Changes) (i : ℕ) (e : List ℕ × Option Scalar) (inside : i < length c.entries) (is : e ≡ get_or c.entries i e) where
  -- one more entry of a change
  pub changed-more : put_or_remove (changed a (prefix c i)) e.0 e.1 ≡ changed a (prefix c (i + 1))
  changed-more =
      same_map _ _ (λ name.
      get-put_or_remove (changed a (prefix c i)) e.0 e.1 name
      ∙ (ap (cond (is_name name e.0) e.1) (get-changed a (prefix c i) name)
      ∙ (after_cond (is_name name e.0) e.1 (get (prefix c i) name) (get a name)
      ∙ (ap (λ o. value_after o (get a name)) (sym (get-prefix-more c i e inside is name)) ∙ sym (get-changed a (prefix c (i + 1)) name)))))

  back_cond : (name : List ℕ) (here : Bool) → is_name name e.0 ≡ here → (t : Bool) → same_option e.1 (get a e.0) ≡ t
      → cond t (value_back (get (prefix c i) name) (get a name)) (cond here (Some (get a e.0)) (value_back (get (prefix c i) name) (get a name))) ≡ value_back (cond here (Some e.1) (get (prefix c i) name)) (get a name)
  back_cond name true here true same =
      rw (same_name_from name e.0 here) (rw (get-prefix-absent c i e inside is, same) refl)
  back_cond name true here false same =
      rw (same_name_from name e.0 here) (rw same refl)
  back_cond name false here true same = refl
  back_cond name false here false same = refl

  -- one more entry of a change taken back
  pub reverted-more : cond (same_option e.1 (get a e.0)) (reverted (prefix c i) a) (insert (reverted (prefix c i) a) e.0 (get a e.0)) ≡ reverted (prefix c (i + 1)) a
  reverted-more =
      same_map _ _ (λ name.
      choice c i e inside is (same_option e.1 (get a e.0)) (reverted (prefix c i) a) (insert (reverted (prefix c i) a) e.0 (get a e.0)) name
      ∙ (ap (cond (same_option e.1 (get a e.0)) (get (reverted (prefix c i) a) name)) (get-insert (reverted (prefix c i) a) e.0 (get a e.0) name)
      ∙ (ap (λ o. cond (same_option e.1 (get a e.0)) o (cond (is_name name e.0) (Some (get a e.0)) o)) (get-reverted (prefix c i) a name)
      ∙ (back_cond name (is_name name e.0) refl (same_option e.1 (get a e.0)) refl
      ∙ (ap (λ o. value_back o (get a name)) (sym (get-prefix-more c i e inside is name)) ∙ sym (get-reverted (prefix c (i + 1)) a name))))))

-- equal steps from equal maps
pub insert-same : {X : Type 0} {m n : Map X} {k l : List ℕ} {x y : X} → m ≡ n → k ≡ l → x ≡ y → insert m k x ≡ insert n l y
insert-same maps keys values = λ i. insert (maps i) (keys i) (values i)

pub put_or_remove-same : {a b : Attributes} {k l : List ℕ} {x y : Option Scalar} → a ≡ b → k ≡ l → x ≡ y → put_or_remove a k x ≡ put_or_remove b l y
put_or_remove-same maps keys values = λ i. put_or_remove (maps i) (keys i) (values i)

-- a loop over entries is over where it has come past the last
pub prefix-over : {X : Type 0} (m : Map X) (items : List (List ℕ × X)) (i : ℕ) → items ≡ m.entries → i ≤ length items → length items ≤ i → prefix m i ≡ m
prefix-over m items i same below over = prefix-all m i (subst (λ l. i ≡ length l) same (omega arith))

-- before the first entry
pub changed-none : (a : Attributes) (c : Changes) → a ≡ changed a (prefix c 0)
unfolding changed_by
changed-none a c = refl

pub overwritten-none : {X : Type 0} (m n : Map X) → m ≡ overwritten m (prefix n 0)
unfolding insert_all
overwritten-none m n = refl

pub without-none : {X Y : Type 0} (m : Map X) (n : Map Y) → empty ≡ without (prefix m 0) n
without-none m n = same_map _ _ (λ name. sym (get-without (prefix m 0) n name ∙ absent (contains n name)))
  where
    absent : {X : Type 0} (t : Bool) → cond {A = Option X} t None None ≡ None
    absent true = refl
    absent false = refl

pub reverted-none : (c : Changes) (a : Attributes) → empty ≡ reverted (prefix c 0) a
unfolding reverted_by
reverted-none c a = refl
