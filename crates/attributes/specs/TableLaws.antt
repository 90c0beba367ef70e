-- What holds of maps and of entries in order, whatever stands at a name: each law is promised by a function of `laws`.
use Rattle.std.specs.Prelude.{◌≡◌, ℕ, ◌+◌, ◌<◌, Bool, true, cond, not, T, List, length, take, get_or, set, Some, None, insert as list_insert, remove as list_remove}
use Rattle.std.specs.Ordering.{eq_by_cmp}
use Rattle.std.specs.declared.cmp.Ordering.TheVariants.{Less, Equal, Greater}
use Rattle.std.specs.FinMap.Entries.{put, where_key, is_sorted}
use Rattle.attributes.specs.Map.{Map, by_bytes, get, insert, remove}
use Rattle.attributes.specs.Place.{IsHere, IsFree}
use Rattle.attributes.specs.Table.{is_name, AllBefore}

-- names that tie are equal
abbrev pub SameName : Type 0
SameName = (x y : List ℕ) → by_bytes x y ≡ Equal → x ≡ y

-- and so by the test
abbrev pub SameNameByTest : Type 0
SameNameByTest = (x y : List ℕ) → eq_by_cmp by_bytes x y ≡ true → x ≡ y

module _ (X : Type 0) where
  -- maps with the same value at each name are one
  abbrev pub SameMap : Type 0
  SameMap = (m n : Map X) → ((name : List ℕ) → get m name ≡ get n name) → m ≡ n

  -- what stands at a name once a value was put at one
  abbrev pub GetPut : Type 0
  GetPut = (m : Map X) (k : List ℕ) (x : X) (name : List ℕ) → get (insert m k x) name ≡ cond (is_name name k) (Some x) (get m name)

  -- and once a name was taken away
  abbrev pub GetRemoved : Type 0
  GetRemoved = (m : Map X) (k name : List ℕ) → get (remove m k) name ≡ cond (is_name name k) None (get m name)

  -- the entries then
  abbrev pub EntriesPut : Type 0
  EntriesPut = (m : Map X) (name : List ℕ) (x : X) → (insert m name x).entries ≡ put by_bytes name x m.entries

  abbrev pub EntriesRemoved : Type 0
  EntriesRemoved =
      (m : Map X) (name : List ℕ) → (remove m name).entries ≡ where_key by_bytes (λ other. not (eq_by_cmp by_bytes name other)) m.entries

  -- a list that is a map's is in order
  abbrev pub ListAscends : Type 0
  ListAscends = (m : Map X) (items : List (List ℕ × X)) → items ≡ m.entries → T (is_sorted by_bytes items)

  -- and so is one that is one map's or another's
  abbrev pub ListAscendsIf : Type 0
  ListAscendsIf = (m n : Map X) (done : Bool) (items : List (List ℕ × X)) → items ≡ cond done n.entries m.entries → T (is_sorted by_bytes items)

  -- the name stands at a place whose name it is, where those before the place stand before it
  abbrev pub HereAt : Type 0
  HereAt =
      (name : List ℕ) (es : List (List ℕ × X)) (i : ℕ) → T (is_sorted by_bytes es) → AllBefore name (take i es)
      → (e : List ℕ × X) → i < length es → e ≡ get_or es i e → by_bytes name e.0 ≡ Equal → IsHere name es i

  -- it stands nowhere where the next one stands after it
  abbrev pub FreeAt : Type 0
  FreeAt =
      (name : List ℕ) (es : List (List ℕ × X)) (i : ℕ) → T (is_sorted by_bytes es) → AllBefore name (take i es)
      → (e : List ℕ × X) → i < length es → e ≡ get_or es i e → by_bytes name e.0 ≡ Less → IsFree name es i

  -- nor where there is no next one
  abbrev pub FreeEnd : Type 0
  FreeEnd =
      (name : List ℕ) (es : List (List ℕ × X)) (i : ℕ) → T (is_sorted by_bytes es) → AllBefore name (take i es)
      → length es ≡ i → IsFree name es i

  -- one that stands before it is one more of those
  abbrev pub BeforeMore : Type 0
  BeforeMore =
      (name : List ℕ) (es : List (List ℕ × X)) (i : ℕ) → T (is_sorted by_bytes es) → AllBefore name (take i es)
      → (e : List ℕ × X) → i < length es → e ≡ get_or es i e → by_bytes name e.0 ≡ Greater → AllBefore name (take (i + 1) es)

  -- an edit of the entries at the place of a name is that edit of the map
  abbrev pub SetHere : Type 0
  SetHere =
      (name : List ℕ) (es : List (List ℕ × X)) (i : ℕ) → IsHere name es i
      → (e : List ℕ × X) (x : X) → e ≡ get_or es i e → set es i (e.0, x) ≡ put by_bytes name x es

  abbrev pub RemoveHere : Type 0
  RemoveHere =
      (name : List ℕ) (es : List (List ℕ × X)) (i : ℕ) → IsHere name es i
      → list_remove es i ≡ where_key by_bytes (λ other. not (eq_by_cmp by_bytes name other)) es

  abbrev pub InsertFree : Type 0
  InsertFree = (name : List ℕ) (es : List (List ℕ × X)) (i : ℕ) → IsFree name es i → (x : X) → list_insert es i (name, x) ≡ put by_bytes name x es

  -- there is nothing to remove of a name that stands nowhere
  abbrev pub RemoveAbsent : Type 0
  RemoveAbsent = (m : Map X) (name : List ℕ) (i : ℕ) → IsFree name m.entries i → m ≡ remove m name

  -- the list of a map after a write at the place of a name, and after an insertion
  abbrev pub Written : Type 0
  Written =
      (m : Map X) (list : List (List ℕ × X)) (text name : List ℕ) (i : ℕ) → list ≡ m.entries → text ≡ name → IsHere text m.entries i
      → (e : List ℕ × X) (x : X) → e ≡ get_or list i e → set list i (e.0, x) ≡ (insert m name x).entries

  abbrev pub Inserted : Type 0
  Inserted =
      (m : Map X) (list : List (List ℕ × X)) (text name : List ℕ) (i : ℕ) → list ≡ m.entries → text ≡ name → IsFree text m.entries i
      → (x : X) → list_insert list i (name, x) ≡ (insert m name x).entries
