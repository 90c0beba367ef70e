-- Names and entries in the order of bytes, whatever stands at a name: for the tables that other crates keep so.
use Rattle.std.specs.Prelude.{◌≡◌, ℕ, Bool, List, [], ◌∷◌}
use Rattle.std.specs.Ordering.{eq_by_cmp}
use Rattle.std.specs.declared.cmp.Ordering.TheVariants.{Greater}
use Rattle.attributes.specs.Map.{by_bytes}

-- a name is the other's
abbrev pub is_name : List ℕ → List ℕ → Bool
is_name = eq_by_cmp by_bytes

-- each of the names stands before this one
pub data AllBefore {X : Type 0} (name : List ℕ) : List (List ℕ × X) → Type 0 where
  none_before : AllBefore name []
  one_before : {e : List ℕ × X} {es : List (List ℕ × X)} → by_bytes name e.0 ≡ Greater → AllBefore name es → AllBefore name (e ∷ es)
