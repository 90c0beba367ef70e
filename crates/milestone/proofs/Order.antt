-- Sources in the order of their names.
use Rattle.std.proofs.Common.{◌≡◌, ℕ, ◌≤◌, Bool, true, List, [], ◌∷◌, ◌++◌, length, refl, ap, ◌∙◌, Greater}
use Rattle.std.specs.Prelude.{◌&&◌}
use Rattle.std.specs.Ordering.{is_lt, ordering_reverse}
use Rattle.std.specs.Cmp.Lexicographic.{nat_list_cmp_total}
use Rattle.std.specs.FinMap.Entries.{put, is_sorted, below_all}
use Rattle.std.proofs.lemmas.Bool.{and_parts, and_from}
use Rattle.attributes.specs.Map.{Map, insert, by_bytes}
pub use Rattle.journal.proofs.CallerLemmas.{from_T, less}
use Rattle.journal.proofs.CallerLemmas.{lower}

module _ {X : Type 0} where
  -- the name is above all that stand there
  abbrev pub above : List (List ℕ × X) → List ℕ → Bool
  above [] name = true
  above (e ∷ es) name = is_lt (by_bytes e.0 name) && above es name

  above-append : (es : List (List ℕ × X)) (e : List ℕ × X) (name : List ℕ) → above es name ≡ true → is_lt (by_bytes e.0 name) ≡ true → above (es ++ e ∷ []) name ≡ true
  above-append [] e name all here = and_from _ _ here refl
  above-append (f ∷ es) e name all here =
      let parts = and_parts (is_lt (by_bytes f.0 name)) (above es name) all in
      and_from _ _ parts.0 (above-append es e name parts.1 here)

  above-last : (es : List (List ℕ × X)) (e : List ℕ × X) (name : List ℕ) → above (es ++ e ∷ []) name ≡ true → is_lt (by_bytes e.0 name) ≡ true
  above-last [] e name all = (and_parts (is_lt (by_bytes e.0 name)) true all).0
  above-last (f ∷ es) e name all = above-last es e name (and_parts (is_lt (by_bytes f.0 name)) (above (es ++ e ∷ []) name) all).1

  -- a name is above the last exactly where it is above all
  pub record IsLast (es : List (List ℕ × X)) (last : List ℕ) : Type 0 where
    pub reaches : (name : List ℕ) → is_lt (by_bytes last name) ≡ true → above es name ≡ true
    pub back : (name : List ℕ) → 1 ≤ length name → above es name ≡ true → is_lt (by_bytes last name) ≡ true

  pub last_more : (es : List (List ℕ × X)) (last : List ℕ) (e : List ℕ × X) → IsLast es last → is_lt (by_bytes last e.0) ≡ true → IsLast (es ++ e ∷ []) e.0
  last_more es last e is here = record {
    reaches = λ name h. above-append es e name (is.reaches name (lower last e.0 name here h)) h;
    back = λ name some all. above-last es e name all;
  }

  -- a name above all is put behind them
  put-last : (es : List (List ℕ × X)) (name : List ℕ) (x : X) → above es name ≡ true → put by_bytes name x es ≡ es ++ (name, x) ∷ []
  put-last [] name x h = refl
  put-last (e ∷ es) name x h =
      let parts = and_parts (is_lt (by_bytes e.0 name)) (above es name) h in
      let greater : by_bytes name e.0 ≡ Greater = nat_list_cmp_total.antisymm name e.0 ∙ ap ordering_reverse (less _ parts.0) in
      rw greater (ap (λ (r : List (List ℕ × X)). e ∷ r) (put-last es name x parts.1))

  pub entries_insert : (m : Map X) (last name : List ℕ) (x : X) → IsLast m.entries last → is_lt (by_bytes last name) ≡ true → (insert m name x).entries ≡ m.entries ++ (name, x) ∷ []
  unfolding insert
  entries_insert m last name x is here = put-last m.entries name x (is.reaches name here)

  -- in a sorted list each name is above those before it
  below-all-there : (name : List ℕ) (es : List (List ℕ × X)) (x : List ℕ × X) (more : List (List ℕ × X)) → below_all by_bytes name (es ++ x ∷ more) ≡ true → is_lt (by_bytes name x.0) ≡ true
  below-all-there name [] x more h = (and_parts (is_lt (by_bytes name x.0)) (below_all by_bytes name more) h).0
  below-all-there name (e ∷ es) x more h = below-all-there name es x more (and_parts (is_lt (by_bytes name e.0)) (below_all by_bytes name (es ++ x ∷ more)) h).1

  pub sorted_above : (es : List (List ℕ × X)) (x : List ℕ × X) (more : List (List ℕ × X)) → is_sorted by_bytes (es ++ x ∷ more) ≡ true → above es x.0 ≡ true
  sorted_above [] x more h = refl
  sorted_above (e ∷ es) x more h =
      let parts = and_parts (below_all by_bytes e.0 (es ++ x ∷ more)) (is_sorted by_bytes (es ++ x ∷ more)) h in
      and_from _ _ (below-all-there e.0 es x more parts.0) (sorted_above es x more parts.1)
