-- What holds of any attributes and changes.
use Rattle.std.specs.Prelude.{◌≡◌, ℕ, true, false, T, List, [], ◌∷◌, take, Option, Some, None, if◌then◌else◌}
use Rattle.std.specs.FinMap.Entries.{is_sorted}
use Rattle.std.specs.Ordering.{eq_by_cmp}
use Rattle.attributes.specs.Map.{Map, by_bytes, empty, get, contains, insert}
use Rattle.attributes.specs.Attributes.{Attributes, Changes, changed, composed, transformed, reverted, same_option}
use Rattle.attributes.specs.Scalar.{Scalar}

-- the first value that is there
abbrev pub first_of : {X : Type 0} → Option X → Option X → Option X
first_of (Some x) other = Some x
first_of None other = other

-- the value after a change that sets or removes it, or leaves it alone
abbrev pub value_after : Option (Option Scalar) → Option Scalar → Option Scalar
value_after None old = old
value_after (Some new) old = new

-- what takes a change back: the old value, or None, where the change made another
abbrev pub value_back : Option (Option Scalar) → Option Scalar → Option (Option Scalar)
value_back None old = None
value_back (Some new) old = if same_option new old then None else Some old

-- attributes with the same value at each name are the same, and so are changes
abbrev pub SameAttributes : Type 0
SameAttributes = (a b : Attributes) → ((name : List ℕ) → get a name ≡ get b name) → a ≡ b

abbrev pub SameChanges : Type 0
SameChanges = (c d : Changes) → ((name : List ℕ) → get c name ≡ get d name) → c ≡ d

-- what stands at a name after a value was put at one
abbrev pub value_put : {X : Type 0} → Map X → List ℕ → X → List ℕ → Option X
value_put m put_at x name = if eq_by_cmp by_bytes name put_at then Some x else get m name

pub record GetInserted : Type 0 where
  pub of_attributes : (a : Attributes) (put_at : List ℕ) (x : Scalar) (name : List ℕ) → get (insert a put_at x) name ≡ value_put a put_at x name
  pub of_changes : (c : Changes) (put_at : List ℕ) (x : Option Scalar) (name : List ℕ) → get (insert c put_at x) name ≡ value_put c put_at x name

-- a map with entries put into it, one after another
abbrev pub with_entries : {X : Type 0} → Map X → List (List ℕ × X) → Map X
with_entries m [] = m
with_entries m (e ∷ es) = with_entries (insert m e.0 e.1) es

-- a map's entries, put into the map without an entry, are the map
pub record EntriesMakeMap : Type 0 where
  pub of_attributes : (a : Attributes) → with_entries empty a.entries ≡ a
  pub of_changes : (c : Changes) → with_entries empty c.entries ≡ c

-- the first of a map's entries are in order too
pub record FirstEntriesAscend : Type 0 where
  pub of_attributes : (a : Attributes) (count : ℕ) → T (is_sorted by_bytes (take count a.entries))
  pub of_changes : (c : Changes) (count : ℕ) → T (is_sorted by_bytes (take count c.entries))

-- what each operation leaves at a name
abbrev pub GetChanged : Type 0
GetChanged = (a : Attributes) (c : Changes) (name : List ℕ) → get (changed a c) name ≡ value_after (get c name) (get a name)

abbrev pub GetComposed : Type 0
GetComposed = (c d : Changes) (name : List ℕ) → get (composed c d) name ≡ first_of (get d name) (get c name)

abbrev pub GetTransformed : Type 0
GetTransformed = (c d : Changes) (name : List ℕ) → get (transformed c d true) name ≡ (if contains c name then None else get d name)

abbrev pub GetReverted : Type 0
GetReverted = (c : Changes) (a : Attributes) (name : List ℕ) → get (reverted c a) name ≡ value_back (get c name) (get a name)

-- a change after a change is one change
abbrev pub ChangedTwice : Type 0
ChangedTwice = (a : Attributes) (c d : Changes) → changed (changed a c) d ≡ changed a (composed c d)

-- two changes in either order: the one with priority wins
abbrev pub ChangedEitherWay : Type 0
ChangedEitherWay = (a : Attributes) (c d : Changes) → changed (changed a c) (transformed c d true) ≡ changed (changed a d) (transformed d c false)

-- a change and its way back
abbrev pub ChangedBack : Type 0
ChangedBack = (a : Attributes) (c : Changes) → changed (changed a c) (reverted c a) ≡ a
