-- The mark of a cell: each has one spelling, and where none begins the bytes.
use Rattle.std.proofs.Common.{◌≡◌, ℕ, Bool, true, false, List, [], ◌∷◌, ◌++◌, drop, get_or, refl, sym, ◌∙◌, ap, arith}
use Rattle.milestone.specs.CellSpelling.{Format, One, Two, mark_byte, mark, spells_mark}
use Rattle.milestone.specs.steps.Reading.{BeginsNone}

one_byte : (a b : Bool) → mark_byte a ≡ mark_byte b → a ≡ b
one_byte true true same = refl
one_byte true false same = absurd (omega (arith, same))
one_byte false true same = absurd (omega (arith, same))
one_byte false false same = refl

-- one mark stands there
pub one_mark : (format : Format) (a b : Bool) (x y : List ℕ) → spells_mark format a ≡ true → spells_mark format b ≡ true → mark format a ++ x ≡ mark format b ++ y
    → (a ≡ b) × (x ≡ y)
one_mark One a b x y is_a is_b same = (is_a ∙ sym is_b, same)
one_mark Two a b x y is_a is_b same = (one_byte a b (ap (λ (l : List ℕ). get_or l 0 0) same), ap (λ (l : List ℕ). drop 1 l) same)

-- no byte is there, or one that is no mark
pub mark_none : (bytes : List ℕ) → bytes ≡ [] → BeginsNone (mark Two) (λ live. spells_mark Two live ≡ true) bytes
mark_none bytes none live rest is spelled = let some : [] ≡ mark_byte live ∷ rest = sym none ∙ spelled in absurd cc

pub other_mark : (byte : ℕ) (bytes behind : List ℕ) → bytes ≡ byte ∷ behind → ((live : Bool) → byte ≡ mark_byte live → ⊥)
    → BeginsNone (mark Two) (λ live. spells_mark Two live ≡ true) bytes
other_mark byte bytes behind there other live rest is spelled = other live (ap (λ (l : List ℕ). get_or l 0 0) (sym there ∙ spelled))

-- a byte that is neither of the two
pub no_byte : (byte : ℕ) → (byte ≡ 1 → ⊥) → (byte ≡ 0 → ⊥) → (live : Bool) → byte ≡ mark_byte live → ⊥
no_byte byte not_live not_deleted true is = not_live is
no_byte byte not_live not_deleted false is = not_deleted is
