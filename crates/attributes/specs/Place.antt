-- Where a name stands, or would stand, among entries in order.
use Rattle.std.specs.Prelude.{◌≡◌, ℕ, ◌<◌, not, List, ◌∷◌, ◌++◌, length, get_or, Some, None}
use Rattle.std.specs.Ordering.{eq_by_cmp}
use Rattle.std.specs.declared.cmp.Ordering.TheVariants.{Less}
use Rattle.std.specs.FinMap.Entries.{find, put, where_key}
use Rattle.attributes.specs.Map.{by_bytes}

-- the name stands at this place
pub record IsHere {X : Type 0} (name : List ℕ) (es : List (List ℕ × X)) (place : ℕ) : Type 0 where
  pub before : List (List ℕ × X)
  pub entry : List ℕ × X
  pub after : List (List ℕ × X)
  pub parts : es ≡ before ++ entry ∷ after
  pub place_is : place ≡ length before
  pub found : find by_bytes name es ≡ Some entry.1
  pub put_there : (x : X) → put by_bytes name x es ≡ before ++ (entry.0, x) ∷ after
  pub taken_out : where_key by_bytes (λ other. not (eq_by_cmp by_bytes name other)) es ≡ before ++ after

-- the name doesn't stand there, and would stand at this place
pub record IsFree {X : Type 0} (name : List ℕ) (es : List (List ℕ × X)) (place : ℕ) : Type 0 where
  pub before : List (List ℕ × X)
  pub after : List (List ℕ × X)
  pub parts : es ≡ before ++ after
  pub place_is : place ≡ length before
  pub not_found : find by_bytes name es ≡ None
  pub put_there : (x : X) → put by_bytes name x es ≡ before ++ (name, x) ∷ after
  pub kept : where_key by_bytes (λ other. not (eq_by_cmp by_bytes name other)) es ≡ es

-- the name stands before what stands at this place
abbrev pub StandsBefore : {X : Type 0} → List ℕ → List (List ℕ × X) → ℕ → Type 0
StandsBefore {X} name es i = (e : List ℕ × X) → i < length es → e ≡ get_or es i e → by_bytes name e.0 ≡ Less
