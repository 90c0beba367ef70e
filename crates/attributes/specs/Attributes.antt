-- Attributes, and changes of attributes (quill-delta's README, "Attributes"; its AttributeMap has `compose`, `transform` and `invert`).
use Rattle.std.specs.Prelude.{◌≡◌, ℕ, ◌≤◌, nat_le, ◌&&◌, Bool, List, [], ◌∷◌, length, Option, Some, None, if◌then◌else◌}
use Rattle.std.specs.Option.{option_eq}
use Rattle.std.specs.Bool.{Decides}
use Rattle.std.proofs.Common.{ap, refl}
use Rattle.std.proofs.lemmas.Bool.{and_parts, and_from, leb-true, le-leb}
use Rattle.attributes.specs.Map.{Map, empty, get, insert, remove, overwritten, without, same_map_by, same_map_by-Decides}
use Rattle.attributes.specs.Scalar.{Scalar, same_scalar, same_scalar-Decides}

-- a name of an attribute or an embed has 1 to 64 bytes of UTF-8
abbrev pub IsKey : List ℕ → Type 0
IsKey name = (1 ≤ length name) × (length name ≤ 64)

-- and its test
abbrev pub is_key : List ℕ → Bool
is_key name = nat_le 1 (length name) && nat_le (length name) 64

pub is_key-Decides : (name : List ℕ) → Decides (is_key name) (IsKey name)
is_key-Decides name = (
  λ e. let parts = and_parts (nat_le 1 (length name)) (nat_le (length name) 64) e in (leb-true _ _ parts.0, leb-true _ _ parts.1),
  λ is. and_from _ _ (le-leb _ _ is.0) (le-leb _ _ is.1),
)

-- attributes: a value at each of their names
abbrev pub Attributes : Type 0
Attributes = Map Scalar

-- a change: at each of its names a new value, or None, which removes the name (`null` in quill-delta)
abbrev pub Changes : Type 0
Changes = Map (Option Scalar)

-- the same value, or none on both sides
abbrev pub same_option : Option Scalar → Option Scalar → Bool
same_option = option_eq same_scalar

-- the same attributes; the same change
abbrev pub same_attributes : Attributes → Attributes → Bool
same_attributes = same_map_by same_scalar

abbrev pub same_changes : Changes → Changes → Bool
same_changes = same_map_by same_option

pub same_option-Decides : (x y : Option Scalar) → Decides (same_option x y) (x ≡ y)
same_option-Decides None None = (λ _. refl, λ _. refl)
same_option-Decides None (Some y) = (λ e. absurd (cc), λ e. absurd (cc))
same_option-Decides (Some x) None = (λ e. absurd (cc), λ e. absurd (cc))
same_option-Decides (Some x) (Some y) = (λ e. ap Some ((same_scalar-Decides x y).0 e), λ e. (same_scalar-Decides x y).1 cc)

pub same_attributes-Decides : (a b : Attributes) → Decides (same_attributes a b) (a ≡ b)
same_attributes-Decides = same_map_by-Decides same_scalar same_scalar-Decides

pub same_changes-Decides : (c d : Changes) → Decides (same_changes c d) (c ≡ d)
same_changes-Decides = same_map_by-Decides same_option same_option-Decides

-- a name with a value, or without
abbrev pub put_or_remove : Attributes → List ℕ → Option Scalar → Attributes
put_or_remove a name (Some x) = insert a name x
put_or_remove a name None = remove a name

unfoldable pub changed_by : Attributes → List (List ℕ × Option Scalar) → Attributes
changed_by a [] = a
changed_by a (e ∷ es) = put_or_remove (changed_by a es) e.0 e.1

-- what a change makes of attributes: its values in place of theirs, without the names that it removes
abbrev pub changed : Attributes → Changes → Attributes
changed a c = changed_by a c.entries

-- a change after a change (`compose`): the second's where both have the name
abbrev pub composed : Changes → Changes → Changes
composed first second = overwritten first second

-- the second change as it is after the first (`transform`): with priority, names that the first has are dropped
abbrev pub transformed : Changes → Changes → Bool → Changes
transformed first second priority = if priority then without second first else second

unfoldable pub reverted_by : Attributes → List (List ℕ × Option Scalar) → Changes
reverted_by a [] = empty
reverted_by a (e ∷ es) =
    if same_option e.1 (get a e.0) then reverted_by a es else insert (reverted_by a es) e.0 (get a e.0)

-- the change back to the attributes (`invert`): the old value, or None, at each name whose value the change changes
abbrev pub reverted : Changes → Attributes → Changes
reverted c a = reverted_by a c.entries
