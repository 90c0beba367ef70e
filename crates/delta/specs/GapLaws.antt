-- What holds of any gap forms: before one another, joined, settled and trimmed, and their lengths.
use Rattle.std.specs.Prelude.{◌≡◌, ℕ, ◌+◌, List, [], ◌∷◌, ◌++◌}
use Rattle.attributes.specs.Map.{empty}
use Rattle.attributes.specs.Attributes.{Attributes, changed}
use Rattle.delta.specs.Element.{Element}
use Rattle.delta.specs.Operation.{Operation, retain, base_of, out_of}
use Rattle.delta.specs.Gaps.{Gaps, End, Fate, Del, Keep, front, run, counted, joined, units_below, units_made, apply}
use Rattle.delta.specs.Normal.{past, settled, trimmed, spelled, nf}

-- nothing, and units after others, before a gap form
abbrev pub FrontOfNothing : Type 0
FrontOfNothing = (g : Gaps) → front [] g ≡ g

abbrev pub FrontTwice : Type 0
FrontTwice = (xs ys : List Element) (g : Gaps) → front xs (front ys g) ≡ front (xs ++ ys) g

-- so many units of one fate, in two parts
abbrev pub RunInParts : Type 0
RunInParts = (m n k : ℕ) (f : Fate) (g : Gaps) → m ≡ n + k → run m f g ≡ run n f (run k f g)

-- what stands before the first of two that are joined stands before both
abbrev pub JoinedToFront : Type 0
JoinedToFront = (xs : List Element) (g h : Gaps) → joined (front xs g) h ≡ front xs (joined g h)

abbrev pub JoinedToRun : Type 0
JoinedToRun = (n : ℕ) (f : Fate) (g h : Gaps) → joined (run n f g) h ≡ run n f (joined g h)

abbrev pub JoinedToNothing : Type 0
JoinedToNothing = (g : Gaps) → joined g (End []) ≡ g

-- inserted units stand before what becomes of a document
abbrev pub EffectOfFront : Type 0
EffectOfFront = (d xs : List Element) (g : Gaps) → apply d (front xs g) ≡ xs ++ apply d g

-- no change leaves attributes as they are
abbrev pub ChangedByNothing : Type 0
ChangedByNothing = (a : Attributes) → changed a empty ≡ a

-- what settles once stays
abbrev pub SettledTwice : Type 0
SettledTwice = (g : Gaps) → settled (settled g) ≡ settled g

-- what is inserted before all others settles there, and moves before a delete
abbrev pub SettledOfFront : Type 0
SettledOfFront = (xs : List Element) (g : Gaps) → settled (front xs g) ≡ front xs (settled g)

abbrev pub PastOfFront : Type 0
PastOfFront = (xs : List Element) (g : Gaps) → past Del (front xs g) ≡ front xs (past Del g)

-- what settles in one of two settles in both, one after the other
abbrev pub SettledInPieces : Type 0
SettledInPieces = (g h : Gaps) → settled (joined (settled g) h) ≡ settled (joined g h)

abbrev pub SettledFromPieces : Type 0
SettledFromPieces = (g h : Gaps) → settled (joined g (settled h)) ≡ settled (joined g h)

-- units kept without a change are trimmed at the end, and are no part of the normal form
abbrev pub TrimmedOfKept : Type 0
TrimmedOfKept = (g : Gaps) (n : ℕ) → trimmed (settled (joined g (run n (Keep empty) (End [])))) ≡ trimmed (settled g)

abbrev pub NormalOfPlain : Type 0
NormalOfPlain = (ops : List Operation) (n : ℕ) → nf (counted (ops ++ retain n empty ∷ [])) ≡ nf (counted ops)

-- how many units a gap form speaks of
abbrev pub UnitsOfFront : Type 0
UnitsOfFront = (xs : List Element) (g : Gaps) → units_below (front xs g) ≡ units_below g

abbrev pub UnitsOfRun : Type 0
UnitsOfRun = (n : ℕ) (f : Fate) (g : Gaps) → units_below (run n f g) ≡ n + units_below g

abbrev pub UnitsOfSettled : Type 0
UnitsOfSettled = (g : Gaps) → units_below (settled g) ≡ units_below g

-- and how many it makes
abbrev pub MadeByCounted : Type 0
MadeByCounted = (ops : List Operation) → units_made (counted ops) ≡ out_of ops

abbrev pub MadeBySettled : Type 0
MadeBySettled = (g : Gaps) → units_made (settled g) ≡ units_made g

-- the lengths of operations after others, and of those that a gap form is spelled by
abbrev pub BaseOfAppend : Type 0
BaseOfAppend = (a b : List Operation) → base_of (a ++ b) ≡ base_of a + base_of b

abbrev pub OutOfAppend : Type 0
OutOfAppend = (a b : List Operation) → out_of (a ++ b) ≡ out_of a + out_of b

abbrev pub BaseOfSpelled : Type 0
BaseOfSpelled = (g : Gaps) → base_of (spelled g) ≡ units_below g

abbrev pub OutOfSpelled : Type 0
OutOfSpelled = (g : Gaps) → out_of (spelled g) ≡ units_made g
