-- A finite map from names to values. Its entries stand in the order of the bytes of their names, each name once.
use Rattle.std.specs.Prelude.{◌≡◌, ℕ, Bool, not, T, List, [], ◌∷◌, Option, is_some, ◌&&◌}
use Rattle.std.specs.Ordering.{nat_cmp, eq_by_cmp}
use Rattle.std.specs.declared.cmp.Ordering.{Ordering}
use Rattle.std.specs.Bool.{Decides}
use Rattle.std.specs.Cmp.Lexicographic.{slice_cmp, nat_list_cmp_total, pointwise, pointwise_decides, bytes_decides}
use Rattle.std.proofs.Common.{true, false, ap}
use Rattle.std.proofs.lemmas.Bool.{and_parts}
use Rattle.std.specs.Coded.{Coded, coded_list, coded_ℕ, coded×}
use Rattle.std.specs.FinMap.Entries.{find, put, is_sorted, where_key, is_sorted-put, is_sorted-where_key}
use Rattle.std.specs.Str.{bytes_eq}
use mathlib.Core.HLevel.{Σ_prop_path}
use lib.Dec.{T_prop}
use base.Stored.{coded_via}

-- names in the order of their bytes
abbrev pub by_bytes : List ℕ → List ℕ → Ordering
by_bytes = slice_cmp nat_cmp

-- a finite map by its entries, whose names strictly rise
pub record Map (X : Type 0) : Type 0 where
  pub entries : List (List ℕ × X)
  pub ascending : T (is_sorted by_bytes entries)

module _ {X : Type 0} where
  -- the map without an entry
  abbrev pub empty : Map X
  empty = record { entries = []; ascending = tt }

  -- what stands at a name
  abbrev pub get : Map X → List ℕ → Option X
  get m name = find by_bytes name m.entries

  abbrev pub contains : Map X → List ℕ → Bool
  contains m name = is_some (get m name)

  -- the map with a value at a name, in place of what stood there
  unfoldable pub insert : Map X → List ℕ → X → Map X
  insert m name x = record {
    entries = put by_bytes name x m.entries;
    ascending = is_sorted-put by_bytes nat_list_cmp_total name x m.entries m.ascending;
  }

  -- the entries whose names pass a test
  unfoldable pub retain : Map X → (List ℕ → Bool) → Map X
  retain m test = record {
    entries = where_key by_bytes test m.entries;
    ascending = is_sorted-where_key by_bytes test m.entries m.ascending;
  }

  -- the map without a name
  abbrev pub remove : Map X → List ℕ → Map X
  remove m name = retain m (λ other. not (eq_by_cmp by_bytes name other))

  unfoldable pub insert_all : Map X → List (List ℕ × X) → Map X
  insert_all m [] = m
  insert_all m (e ∷ es) = insert (insert_all m es) e.0 e.1

  -- a map overwritten by another: the second's value where it has the name, else the first's
  abbrev pub overwritten : Map X → Map X → Map X
  overwritten m n = insert_all m n.entries

  -- two maps with the same entries are one map
  pub same_entries_map : (m n : Map X) → m.entries ≡ n.entries → m ≡ n
  same_entries_map m n e =
      let pairs : ◌≡◌ {A = (es : List (List ℕ × X)) × T (is_sorted by_bytes es)} (m.entries, m.ascending) (n.entries, n.ascending) = Σ_prop_path (λ es. T_prop _) e in
      λ i. record { entries = (pairs i).0; ascending = (pairs i).1 }

  abbrev pub entries_of : Map X → List (List ℕ × X)
  entries_of m = m.entries

  -- how a map is told from every other
  abbrev pub map_code : Coded X → Coded (Map X)
  map_code x = coded_via (coded_list (coded× (coded_list coded_ℕ) x)) entries_of same_entries_map

  -- the same map, by a test of values
  abbrev pub same_map_by : (X → X → Bool) → Map X → Map X → Bool
  same_map_by same m n = pointwise (λ e f. bytes_eq e.0 f.0 && same e.1 f.1) m.entries n.entries

both_true : (a b : Bool) → a ≡ true → b ≡ true → (a && b) ≡ true
both_true true b p q = q
both_true false b p q = cc

module _ {X : Type 0} where
  same_entry-Decides : (same : X → X → Bool) → ((x y : X) → Decides (same x y) (x ≡ y)) → (e f : List ℕ × X) → Decides (bytes_eq e.0 f.0 && same e.1 f.1) (e ≡ f)
  same_entry-Decides same decides e f = (
    λ t. let parts = and_parts (bytes_eq e.0 f.0) (same e.1 f.1) t in
        let names = (bytes_decides e.0 f.0).0 parts.0 in
        let values = (decides e.1 f.1).0 parts.1 in
        λ i. (names i, values i),
    λ e_is_f. both_true _ _ ((bytes_decides e.0 f.0).1 (ap (λ (g : List ℕ × X). g.0) e_is_f)) ((decides e.1 f.1).1 (ap (λ (g : List ℕ × X). g.1) e_is_f)),
  )

  -- where a test decides the values, it decides the maps
  pub same_map_by-Decides : (same : X → X → Bool) → ((x y : X) → Decides (same x y) (x ≡ y)) → (m n : Map X) → Decides (same_map_by same m n) (m ≡ n)
  same_map_by-Decides same decides m n =
      let list = pointwise_decides (same_entry-Decides same decides) m.entries n.entries in
      (λ t. same_entries_map m n (list.0 t), λ e. list.1 (ap (λ (k : Map X). k.entries) e))

-- the names of the first map that the second has not
abbrev pub without : {X Y : Type 0} → Map X → Map Y → Map X
without m n = retain m (λ name. not (contains n name))
