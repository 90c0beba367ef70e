-- Walking over entries in order to the place of a name.
use Rattle.std.proofs.Common.{◌≡◌, ℕ, suc, ◌+◌, ◌<◌, Bool, true, false, cond, List, [], ◌∷◌, ◌++◌, length, take, drop, get_or, Some, None, refl, sym, ap, ap₂, subst, ◌∙◌, Ordering, Less, Equal, Greater, arith, append-nil, add-one}
use Rattle.std.proofs.Math.Seq.{drop-cons, take-length, get_or-append_seam, set-append_seam, take-append_seam, drop-append_seam}
use Rattle.std.proofs.lemmas.List.{take-append-drop, take_more, length-take-le}
use Rattle.std.specs.Prelude.{not, T}
use Rattle.std.specs.Cmp.Lexicographic.{nat_list_cmp_total}
use Rattle.std.specs.FinMap.Entries.{find, put, where_key, is_sorted, below_all}
use Rattle.std.specs.Ordering.{eq_by_cmp, is_lt}
use Rattle.std.specs.List.{insert as list_insert, remove as list_remove}
use Rattle.std.proofs.Math.ListN.{set}
use Rattle.attributes.specs.Map.{Map, by_bytes, insert, retain, remove, same_entries_map}
use Rattle.attributes.specs.Place.{IsHere, IsFree}
pub use Rattle.attributes.specs.Table.{AllBefore, none_before, one_before}
use Rattle.attributes.proofs.Maps.{find_below, find_once, same_name, T_parts, less_from}

AllBefore-append : {X : Type 0} {name : List ℕ} {es : List (List ℕ × X)} (e : List ℕ × X) → AllBefore name es → by_bytes name e.0 ≡ Greater → AllBefore name (es ++ e ∷ [])
AllBefore-append e none_before here = one_before here none_before
AllBefore-append e (one_before first rest) here = one_before first (AllBefore-append e rest here)

module _ {X : Type 0} (name : List ℕ) where
  abbrev pub others : List (List ℕ × X) → List (List ℕ × X)
  others es = where_key by_bytes (λ other. not (eq_by_cmp by_bytes name other)) es

  put-past : {before : List (List ℕ × X)} → AllBefore name before → (x : X) (rest : List (List ℕ × X)) → put by_bytes name x (before ++ rest) ≡ before ++ put by_bytes name x rest
  put-past none_before x rest = refl
  put-past (one_before {e} first others_before) x rest = rw first (ap (λ l. e ∷ l) (put-past others_before x rest))

  find-past : {before : List (List ℕ × X)} → AllBefore name before → (rest : List (List ℕ × X)) → find by_bytes name (before ++ rest) ≡ find by_bytes name rest
  find-past none_before rest = refl
  find-past (one_before first others_before) rest = rw first (find-past others_before rest)

  others-past : {before : List (List ℕ × X)} → AllBefore name before → (rest : List (List ℕ × X)) → others (before ++ rest) ≡ before ++ others rest
  others-past none_before rest = refl
  others-past (one_before {e} first others_before) rest = rw first (ap (λ l. e ∷ l) (others-past others_before rest))

  -- nothing goes where the name isn't there
  others-absent : (es : List (List ℕ × X)) → find by_bytes name es ≡ None → others es ≡ es
  others-absent [] none = refl
  others-absent (e ∷ es) none =
      elim (eq_by_cmp by_bytes name e.0) as (λ b. cond b (Some e.1) (find by_bytes name es) ≡ None → cond (not b) (e ∷ others es) (others es) ≡ e ∷ es) [
        | true ↦ λ found. absurd (cc)
        | false ↦ λ absent. ap (λ l. e ∷ l) (others-absent es absent)
      ] none

below_lower : {X : Type 0} (name other : List ℕ) (es : List (List ℕ × X)) → by_bytes name other ≡ Less → T (below_all by_bytes other es) → T (below_all by_bytes name es)
below_lower name other [] lower below = tt
below_lower name other (e ∷ es) lower below =
    let parts = T_parts (is_lt (by_bytes other e.0)) (below_all by_bytes other es) below in
    let here : by_bytes name e.0 ≡ Less = nat_list_cmp_total.trans name other e.0 lower (less_from (by_bytes other e.0) parts.0) in
    rw here (below_lower name other es lower parts.1)

-- a name before the first is before them all
below_first : {X : Type 0} (name : List ℕ) (e : List ℕ × X) (after : List (List ℕ × X)) → by_bytes name e.0 ≡ Less → T (is_sorted by_bytes (e ∷ after)) → T (below_all by_bytes name (e ∷ after))
below_first name e after lower sorted =
    rw lower (below_lower name e.0 after lower (T_parts (below_all by_bytes e.0 after) (is_sorted by_bytes after) sorted).0)

is_sorted-rest : {X : Type 0} (before rest : List (List ℕ × X)) → T (is_sorted by_bytes (before ++ rest)) → T (is_sorted by_bytes rest)
is_sorted-rest [] rest sorted = sorted
is_sorted-rest (e ∷ before) rest sorted =
    is_sorted-rest before rest (T_parts (below_all by_bytes e.0 (before ++ rest)) (is_sorted by_bytes (before ++ rest)) sorted).1

-- a list at one of its places
at_place : {A : Type 0} (xs : List A) (i : ℕ) (x : A) → i < length xs → x ≡ get_or xs i x → xs ≡ take i xs ++ x ∷ drop (suc i) xs
at_place xs i x inside is =
    sym (take-append-drop i xs) ∙ ap (λ l. take i xs ++ l) (drop-cons xs i x inside ∙ ap (λ y. y ∷ drop (suc i) xs) (sym is))

module _ {X : Type 0} (name : List ℕ) (es : List (List ℕ × X)) (i : ℕ) (sorted : T (is_sorted by_bytes es)) (before : AllBefore name (take i es)) where
  module _ (e : List ℕ × X) (inside : i < length es) (is : e ≡ get_or es i e) where
    after : List (List ℕ × X)
    after = drop (suc i) es

    from_here : T (is_sorted by_bytes (e ∷ after))
    unfolding after
    from_here = is_sorted-rest (take i es) (e ∷ after) (subst (λ l. T (is_sorted by_bytes l)) (at_place es i e inside is) sorted)

    -- the name itself
    pub here_at : by_bytes name e.0 ≡ Equal → IsHere name es i
    unfolding after
    here_at tie =
        let parts = at_place es i e inside is in
        let absent : find by_bytes name after ≡ None = subst (λ n. find by_bytes n after ≡ None) (sym (same_name name e.0 tie)) (find_once e after from_here).0 in
        record {
          before = take i es;
          entry = e;
          after = after;
          parts = parts;
          place_is = sym (length-take-le i es (omega arith));
          found = ap (find by_bytes name) parts ∙ (find-past name before (e ∷ after) ∙ rw tie);
          put_there = λ x. ap (put by_bytes name x) parts ∙ (put-past name before x (e ∷ after) ∙ rw tie);
          taken_out = ap (others name) parts ∙ (others-past name before (e ∷ after) ∙ rw tie (ap (λ l. take i es ++ l) (others-absent name after absent)));
        }

    -- a name after it
    pub free_at : by_bytes name e.0 ≡ Less → IsFree name es i
    unfolding after
    free_at lower =
        let parts = at_place es i e inside is in
        let below : T (below_all by_bytes name (e ∷ after)) = below_first name e after lower from_here in
        let absent : find by_bytes name es ≡ None = ap (find by_bytes name) parts ∙ (find-past name before (e ∷ after) ∙ find_below name (e ∷ after) below) in
        record {
          before = take i es;
          after = e ∷ after;
          parts = parts;
          place_is = sym (length-take-le i es (omega arith));
          not_found = absent;
          put_there = λ x. ap (put by_bytes name x) parts ∙ (put-past name before x (e ∷ after) ∙ rw lower);
          kept = others-absent name es absent;
        }

    pub before_more : by_bytes name e.0 ≡ Greater → AllBefore name (take (i + 1) es)
    before_more higher =
        subst (AllBefore name) (sym (take_more es i e inside ∙ ap (λ y. take i es ++ y ∷ []) (sym is))) (AllBefore-append e before higher)

  -- past the last
  pub free_end : length es ≡ i → IsFree name es i
  free_end past =
      let whole : take i es ≡ es = ap (λ n. take n es) (sym past) ∙ take-length es in
      let all_before : AllBefore name es = subst (AllBefore name) whole before in
      let all : es ≡ es ++ [] = sym (append-nil es) in
      let absent : find by_bytes name es ≡ None = ap (find by_bytes name) all ∙ find-past name all_before [] in
      record {
        before = es;
        after = [];
        parts = all;
        place_is = sym past;
        not_found = absent;
        put_there = λ x. ap (put by_bytes name x) all ∙ put-past name all_before x [];
        kept = others-absent name es absent;
      }

-- what a loop over a map's list reads, of the map
pub read_at : {A : Type 0} (items es : List A) (i : ℕ) (e : A) → items ≡ es → i < length items → e ≡ get_or items i e → (i < length es) × (e ≡ get_or es i e)
read_at items es i e same inside is = subst (λ l. (i < length l) × (e ≡ get_or l i e)) same (inside, is)

-- a list from a place on
pub drop-here : {A : Type 0} (items : List A) (i : ℕ) (item : A) → i < length items → item ≡ get_or items i item → drop i items ≡ item ∷ drop (i + 1) items
drop-here items i item inside is =
    drop-cons items i item inside ∙ (ap (λ x. x ∷ drop (suc i) items) (sym is) ∙ ap (λ j. item ∷ drop j items) (sym (add-one i)))

pub compared : (name text key : List ℕ) (order : Ordering) → order ≡ by_bytes name text → text ≡ key → by_bytes name key ≡ order
compared name text key order is same = ap (by_bytes name) (sym same) ∙ sym is

-- an edit of the list at the place of a name is that edit of the map
module _ {X : Type 0} {name : List ℕ} {es : List (List ℕ × X)} {i : ℕ} where
  pub set-here : (here : IsHere name es i) (e : List ℕ × X) (x : X) → e ≡ get_or es i e → set es i (e.0, x) ≡ put by_bytes name x es
  set-here here e x is =
      let entry : e ≡ here.entry = is ∙ (ap (λ l. get_or l i e) here.parts ∙ (ap (λ n. get_or (here.before ++ here.entry ∷ here.after) n e) here.place_is ∙ get_or-append_seam here.before here.entry here.after e)) in
      ap (λ l. set l i (e.0, x)) here.parts
      ∙ (ap (λ n. set (here.before ++ here.entry ∷ here.after) n (e.0, x)) here.place_is
      ∙ (set-append_seam here.before here.entry here.after (e.0, x)
      ∙ (ap (λ (f : List ℕ × X). here.before ++ (f.0, x) ∷ here.after) entry ∙ sym (here.put_there x))))

  pub remove-here : (here : IsHere name es i) → list_remove es i ≡ others name es
  remove-here here =
      ap (λ l. list_remove l i) here.parts
      ∙ (ap (λ n. list_remove (here.before ++ here.entry ∷ here.after) n) here.place_is
      ∙ (ap₂ ◌++◌ (take-append_seam here.before (here.entry ∷ here.after)) (drop-past here.before) ∙ sym here.taken_out))
    where
      drop-past : (before : List (List ℕ × X)) → drop (suc (length before)) (before ++ here.entry ∷ here.after) ≡ here.after
      drop-past [] = refl
      drop-past (f ∷ before) = drop-past before

  pub insert-free : (free : IsFree name es i) (x : X) → list_insert es i (name, x) ≡ put by_bytes name x es
  insert-free free x =
      ap (λ l. list_insert l i (name, x)) free.parts
      ∙ (ap (λ n. list_insert (free.before ++ free.after) n (name, x)) free.place_is
      ∙ (ap₂ (λ l r. l ++ (name, x) ∷ r) (take-append_seam free.before free.after) (drop-append_seam free.before free.after) ∙ sym (free.put_there x)))

-- a list that is a map's is in order
pub ascending_as : {X : Type 0} (m : Map X) (items : List (List ℕ × X)) → items ≡ m.entries → T (is_sorted by_bytes items)
ascending_as m items same = subst (λ l. T (is_sorted by_bytes l)) (sym same) m.ascending

pub ascending_if : {X : Type 0} (m n : Map X) (done : Bool) (items : List (List ℕ × X)) → items ≡ cond done n.entries m.entries → T (is_sorted by_bytes items)
ascending_if m n true items same = ascending_as n items same
ascending_if m n false items same = ascending_as m items same

-- the entries of an edited map
pub entries-insert : {X : Type 0} (m : Map X) (name : List ℕ) (x : X) → (insert m name x).entries ≡ put by_bytes name x m.entries
unfolding insert
entries-insert m name x = refl

pub entries-remove : {X : Type 0} (m : Map X) (name : List ℕ) → (remove m name).entries ≡ others name m.entries
unfolding retain
entries-remove m name = refl

pub remove-absent : {X : Type 0} (m : Map X) (name : List ℕ) (i : ℕ) → IsFree name m.entries i → m ≡ remove m name
remove-absent m name i free = same_entries_map m (remove m name) (sym (entries-remove m name ∙ free.kept))

-- the list of a map after a write or an insertion at the place of a name
module _ {X : Type 0} (m : Map X) (list : List (List ℕ × X)) (text name : List ℕ) (i : ℕ) (is_list : list ≡ m.entries) (is_name : text ≡ name) where
  pub written : IsHere text m.entries i → (e : List ℕ × X) (x : X) → e ≡ get_or list i e → set list i (e.0, x) ≡ (insert m name x).entries
  written here e x is =
      ap (λ l. set l i (e.0, x)) is_list
      ∙ (set-here here e x (subst (λ l. e ≡ get_or l i e) is_list is)
      ∙ (ap (λ n. put by_bytes n x m.entries) is_name ∙ sym (entries-insert m name x)))

  pub inserted : IsFree text m.entries i → (x : X) → list_insert list i (name, x) ≡ (insert m name x).entries
  inserted free x =
      ap (λ l. list_insert l i (name, x)) is_list
      ∙ (ap (λ n. list_insert m.entries i (n, x)) (sym is_name)
      ∙ (insert-free free x
      ∙ (ap (λ n. put by_bytes n x m.entries) is_name ∙ sym (entries-insert m name x))))
