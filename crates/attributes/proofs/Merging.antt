-- Two maps whose entries are walked side by side: those of the first that the second hasn't the names of, and those of the second.
use Rattle.std.proofs.Common.{◌≡◌, ℕ, zero, suc, ◌+◌, ◌<◌, Bool, true, false, cond, List, [], ◌∷◌, length, take, get_or, Option, Some, None, refl, sym, ap, ◌∙◌}
use Rattle.std.specs.Prelude.{is_some}
use Rattle.std.specs.FinMap.Entries.{find}
use Rattle.std.specs.Ordering.{eq_by_cmp}
use Rattle.attributes.specs.Attributes.{Attributes, Changes, changed, changed_by}
use Rattle.attributes.specs.Laws.{first_of, value_after}
use Rattle.attributes.specs.Map.{Map, by_bytes, empty, get, contains, insert, insert_all, overwritten, without}
use Rattle.attributes.specs.Scalar.{Scalar}
use Rattle.attributes.proofs.AtEachName.{get-changed}
use Rattle.attributes.proofs.Maps.{is_name, same_map, get-insert, get-overwritten, get-without, same_name_from}
use Rattle.attributes.proofs.Prefixes.{prefix, without-more}

find_front : {X : Type 0} (name : List ℕ) (es : List (List ℕ × X)) (i : ℕ) → find by_bytes name es ≡ None → find by_bytes name (take i es) ≡ None
find_front name es zero none = refl
find_front name [] (suc i) none = refl
find_front name (e ∷ es) (suc i) none =
    elim (eq_by_cmp by_bytes name e.0) as (λ b. cond b (Some e.1) (find by_bytes name es) ≡ None → cond b (Some e.1) (find by_bytes name (take i es)) ≡ None) [
      | true ↦ λ found. absurd (cc)
      | false ↦ λ absent. find_front name es i absent
    ] none

none_from : {A : Type 0} (o : Option A) → is_some o ≡ false → o ≡ None
none_from None absent = refl
none_from (Some x) absent = absurd (cc)

-- a name that a map hasn't is not among its first entries
prefix_absent : {X : Type 0} (m : Map X) (i : ℕ) (name : List ℕ) → contains m name ≡ false → get (prefix m i) name ≡ None
prefix_absent m i name absent = find_front name m.entries i (none_from (get m name) absent)

-- a value at a name that a change hasn't, put there after the change
changed-insert : (a : Attributes) (c : Changes) (k : List ℕ) (x : Scalar) → get c k ≡ None → insert (changed a c) k x ≡ changed (insert a k x) c
changed-insert a c k x absent =
    same_map _ _ (λ name.
    get-insert (changed a c) k x name
    ∙ (ap (cond (is_name name k) (Some x)) (get-changed a c name)
    ∙ (later name (is_name name k) refl
    ∙ (ap (value_after (get c name)) (sym (get-insert a k x name)) ∙ sym (get-changed (insert a k x) c name)))))
  where
    later : (name : List ℕ) (here : Bool) → is_name name k ≡ here → cond here (Some x) (value_after (get c name) (get a name)) ≡ value_after (get c name) (cond here (Some x) (get a name))
    later name true here = rw (same_name_from name k here) (rw absent refl)
    later name false here = refl

overwritten-insert : {X : Type 0} (m n : Map X) (k : List ℕ) (x : X) → get n k ≡ None → insert (overwritten m n) k x ≡ overwritten (insert m k x) n
overwritten-insert {X} m n k x absent =
    same_map _ _ (λ name.
    get-insert (overwritten m n) k x name
    ∙ (ap (cond (is_name name k) (Some x)) (get-overwritten m n name)
    ∙ (later name (is_name name k) refl
    ∙ (ap (first_of (get n name)) (sym (get-insert m k x name)) ∙ sym (get-overwritten (insert m k x) n name)))))
  where
    later : (name : List ℕ) (here : Bool) → is_name name k ≡ here → cond here (Some x) (first_of (get n name) (get m name)) ≡ first_of (get n name) (cond here (Some x) (get m name))
    later name true here = rw (same_name_from name k here) (rw absent refl)
    later name false here = refl

-- one more entry of the first, unless the second has its name
module _ {X Y : Type 0} (m : Map X) (n : Map Y) (i : ℕ) (e : List ℕ × X) (inside : i < length m.entries) (is : e ≡ get_or m.entries i e) where
  one_more : (has : Bool) → contains n e.0 ≡ has → cond has (without (prefix m i) n) (insert (without (prefix m i) n) e.0 e.1) ≡ without (prefix m (i + 1)) n
  one_more has known = ap (λ b. cond b (without (prefix m i) n) (insert (without (prefix m i) n) e.0 e.1)) (sym known) ∙ without-more m i e inside is n

  -- and what comes of that is the same, whether the entry comes before it or after it
  kept_more : (f : Map X → Map X) → ((k : Map X) → contains n e.0 ≡ false → insert (f k) e.0 e.1 ≡ f (insert k e.0 e.1)) → (has : Bool) → contains n e.0 ≡ has
      → cond has (f (without (prefix m i) n)) (insert (f (without (prefix m i) n)) e.0 e.1) ≡ f (without (prefix m (i + 1)) n)
  kept_more f later true known = ap f (one_more true known)
  kept_more f later false known = later (without (prefix m i) n) known ∙ ap f (one_more false known)

pub changed-kept : (a : Attributes) (c : Changes) (i j : ℕ) (e : List ℕ × Scalar) → i < length a.entries → e ≡ get_or a.entries i e
    → cond (contains c e.0) (changed (without (prefix a i) c) (prefix c j)) (insert (changed (without (prefix a i) c) (prefix c j)) e.0 e.1) ≡ changed (without (prefix a (i + 1)) c) (prefix c j)
changed-kept a c i j e inside is =
    kept_more a c i e inside is (λ k. changed k (prefix c j)) (λ k has. changed-insert k (prefix c j) e.0 e.1 (prefix_absent c j e.0 has)) (contains c e.0) refl

pub overwritten-kept : {X : Type 0} (m n : Map X) (i j : ℕ) (e : List ℕ × X) → i < length m.entries → e ≡ get_or m.entries i e
    → cond (contains n e.0) (overwritten (without (prefix m i) n) (prefix n j)) (insert (overwritten (without (prefix m i) n) (prefix n j)) e.0 e.1) ≡ overwritten (without (prefix m (i + 1)) n) (prefix n j)
overwritten-kept m n i j e inside is =
    kept_more m n i e inside is (λ k. overwritten k (prefix n j)) (λ k has. overwritten-insert k (prefix n j) e.0 e.1 (prefix_absent n j e.0 has)) (contains n e.0) refl

-- the second's are all there in any case
pub changed-without : (a : Attributes) (c : Changes) → changed (without a c) c ≡ changed a c
changed-without a c =
    same_map _ _ (λ name.
    get-changed (without a c) c name
    ∙ (ap (value_after (get c name)) (get-without a c name) ∙ (dropped (get c name) (get a name) ∙ sym (get-changed a c name))))
  where
    dropped : (new : Option (Option Scalar)) (old : Option Scalar) → value_after new (cond (is_some new) None old) ≡ value_after new old
    dropped None old = refl
    dropped (Some x) old = refl

pub overwritten-without : {X : Type 0} (m n : Map X) → overwritten (without m n) n ≡ overwritten m n
overwritten-without {X} m n =
    same_map _ _ (λ name.
    get-overwritten (without m n) n name
    ∙ (ap (first_of (get n name)) (get-without m n name) ∙ (dropped (get n name) (get m name) ∙ sym (get-overwritten m n name))))
  where
    dropped : (new old : Option X) → first_of new (cond (is_some new) None old) ≡ first_of new old
    dropped None old = refl
    dropped (Some x) old = refl

-- a map over the one without an entry
pub overwritten-empty : {X : Type 0} (m n : Map X) → m ≡ empty → overwritten m n ≡ n
overwritten-empty {X} m n none = same_map _ _ (λ name. get-overwritten m n name ∙ (ap (λ k. first_of (get n name) (get k name)) none ∙ alone (get n name)))
  where
    alone : (o : Option X) → first_of o None ≡ o
    alone None = refl
    alone (Some x) = refl

-- and the one without an entry over a map
pub overwritten-by-empty : {X : Type 0} (m n : Map X) → n ≡ empty → overwritten m n ≡ m
unfolding insert_all
overwritten-by-empty m n none = ap (overwritten m) none

pub changed-by-empty : (a : Attributes) (c : Changes) → c ≡ empty → changed a c ≡ a
unfolding changed_by
changed-by-empty a c none = ap (changed a) none

-- equal steps from equal maps
pub kept-same : {X : Type 0} {m n : Map X} (has : Bool) (e : List ℕ × X) → m ≡ n → cond has m (insert m e.0 e.1) ≡ cond has n (insert n e.0 e.1)
kept-same has e maps = ap (λ k. cond has k (insert k e.0 e.1)) maps
