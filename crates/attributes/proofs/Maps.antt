-- What `get` finds in a map after each change of the map, and that it tells maps apart.
use Rattle.std.proofs.Common.{◌≡◌, ℕ, Bool, true, false, cond, List, [], ◌∷◌, Option, Some, None, refl, sym, ap, ◌∙◌, Ordering, Less, Equal, Greater}
use Rattle.std.specs.Prelude.{not, ◌&&◌, T}
use Rattle.std.specs.Cmp.Lexicographic.{nat_list_cmp_total}
use Rattle.std.specs.Cmp.{eq_by_cmp_equiv}
use Rattle.std.specs.FinMap.{slice_cmp-IsAntisymmetric, nat_cmp-IsAntisymmetric}
use Rattle.std.specs.FinMap.Entries.{find, find-put, find-where_key, same_entries, below_all, is_sorted}
use Rattle.std.specs.Ordering.{eq_by_cmp, is_eq, is_lt}
use Rattle.attributes.specs.Map.{Map, by_bytes, get, contains, insert, retain, remove, insert_all, overwritten, without, same_entries_map}
use Rattle.attributes.specs.Laws.{first_of}
pub use Rattle.attributes.specs.Table.{is_name}

-- names that tie are equal
pub same_name : (x y : List ℕ) → by_bytes x y ≡ Equal → x ≡ y
same_name = slice_cmp-IsAntisymmetric nat_cmp-IsAntisymmetric

-- a choice between the same is that
pub cond_same : {A : Type 0} (b : Bool) (x : A) → cond b x x ≡ x
cond_same true x = refl
cond_same false x = refl

pub equal_from : (r : Ordering) → is_eq r ≡ true → r ≡ Equal
equal_from Less e = absurd (cc)
equal_from Equal e = refl
equal_from Greater e = absurd (cc)

pub less_from : (r : Ordering) → T (is_lt r) → r ≡ Less
less_from Less h = refl
less_from Equal h = absurd h
less_from Greater h = absurd h

pub same_name_from : (x y : List ℕ) → eq_by_cmp by_bytes x y ≡ true → x ≡ y
same_name_from x y tie = same_name x y (equal_from (by_bytes x y) tie)

-- the two parts of a test
pub T_parts : (a b : Bool) → T (a && b) → T a × T b
T_parts true b h = (tt, h)
T_parts false b h = absurd h

module _ {X : Type 0} where
  -- a name below all others is not among them
  pub find_below : (name : List ℕ) (es : List (List ℕ × X)) → T (below_all by_bytes name es) → find by_bytes name es ≡ None
  find_below name [] h = refl
  find_below name (e ∷ es) h =
      let parts = T_parts (is_lt (by_bytes name e.0)) (below_all by_bytes name es) h in
      elim (by_bytes name e.0) as (λ r. T (is_lt r) → cond (is_eq r) (Some e.1) (find by_bytes name es) ≡ None) [
        | Less ↦ λ _. find_below name es parts.1
        | Equal ↦ λ f. absurd f
        | Greater ↦ λ f. absurd f
      ] parts.0

  -- in a list in order the first name stands once
  pub find_once : (e : List ℕ × X) (es : List (List ℕ × X)) → T (is_sorted by_bytes (e ∷ es)) → (find by_bytes e.0 es ≡ None) × T (is_sorted by_bytes es)
  find_once e es h = let parts = T_parts (below_all by_bytes e.0 es) (is_sorted by_bytes es) h in (find_below e.0 es parts.0, parts.1)

  pub same_map : (m n : Map X) → ((name : List ℕ) → get m name ≡ get n name) → m ≡ n
  same_map m n same =
      same_entries_map m n (same_entries by_bytes nat_list_cmp_total same_name m.entries n.entries m.ascending n.ascending same)

  pub get-insert : (m : Map X) (k : List ℕ) (x : X) (name : List ℕ) → get (insert m k x) name ≡ cond (is_name name k) (Some x) (get m name)
  unfolding insert
  get-insert m k x name = find-put by_bytes nat_list_cmp_total name k x m.entries

  pub get-retain : (m : Map X) (test : List ℕ → Bool) (name : List ℕ) → get (retain m test) name ≡ cond (test name) (get m name) None
  unfolding retain
  get-retain m test name = find-where_key by_bytes test name (λ other tie. ap test (sym (same_name name other tie))) m.entries

  turned : (b : Bool) (x y : Option X) → cond (not b) x y ≡ cond b y x
  turned true x y = refl
  turned false x y = refl

  pub get-remove : (m : Map X) (k name : List ℕ) → get (remove m k) name ≡ cond (is_name name k) None (get m name)
  get-remove m k name =
      get-retain m (λ other. not (is_name k other)) name
      ∙ (turned (is_name k name) (get m name) None ∙ ap (λ b. cond b None (get m name)) ((eq_by_cmp_equiv nat_list_cmp_total).symm k name))

  pub first_cond : (b : Bool) (x : X) (here there : Option X) → cond b (Some x) (first_of here there) ≡ first_of (cond b (Some x) here) there
  first_cond true x here there = refl
  first_cond false x here there = refl

  get-insert_all : (m : Map X) (es : List (List ℕ × X)) (name : List ℕ) → get (insert_all m es) name ≡ first_of (find by_bytes name es) (get m name)
  unfolding insert_all
  get-insert_all m [] name = refl
  get-insert_all m (e ∷ es) name =
      get-insert (insert_all m es) e.0 e.1 name
      ∙ (ap (cond (is_name name e.0) (Some e.1)) (get-insert_all m es name) ∙ first_cond (is_name name e.0) e.1 (find by_bytes name es) (get m name))

  pub get-overwritten : (m n : Map X) (name : List ℕ) → get (overwritten m n) name ≡ first_of (get n name) (get m name)
  get-overwritten m n name = get-insert_all m n.entries name

  pub get-without : {Y : Type 0} (m : Map X) (n : Map Y) (name : List ℕ) → get (without m n) name ≡ cond (contains n name) None (get m name)
  get-without m n name = get-retain m (λ other. not (contains n other)) name ∙ turned (contains n name) (get m name) None
