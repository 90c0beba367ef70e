-- What holds of any operations and gap forms.
use Rattle.std.specs.Prelude.{◌≡◌, ℕ, ◌+◌, ◌-◌, ◌≤◌, ◌↔◌, IsTrue, List, [], ◌∷◌, ◌++◌, length, map}
use Rattle.attributes.specs.Attributes.{Attributes, Changes, changed}
use Rattle.attributes.specs.Scalar.{Scalar}
use Rattle.delta.specs.Element.{Element, letters, embedded}
use Rattle.delta.specs.Operation.{Operation, insert_text, insert_embed, retain, delete, base_of, out_of, IsBounded}
use Rattle.delta.specs.Gaps.{Gaps, counted, joined, units_below, apply}
use Rattle.delta.specs.Normal.{is_built, IsNormal, settled, trimmed, spelled, nf, built}

-- operations one after another, counted out
abbrev pub CountedOfAppend : Type 0
CountedOfAppend = (a b : List Operation) → counted (a ++ b) ≡ joined (counted a) (counted b)

-- three gap forms one after another
abbrev pub JoinedThrice : Type 0
JoinedThrice = (g h k : Gaps) → joined (joined g h) k ≡ joined g (joined h k)

-- operations speak of as many units as their base length says
abbrev pub UnitsCounted : Type 0
UnitsCounted = (ops : List Operation) → units_below (counted ops) ≡ base_of ops

-- a list that is merged and in order is its own built form
abbrev pub BuiltIsKept : Type 0
BuiltIsKept = (ops : List Operation) → IsTrue (is_built ops) → built ops ≡ ops

-- a list in normal form is the normal form of its own counting out
abbrev pub NormalIsKept : Type 0
NormalIsKept = (ops : List Operation) → IsNormal ops → nf (counted ops) ≡ ops

-- the operations that a gap form is spelled by are counted out to it
abbrev pub CountedOfSpelled : Type 0
CountedOfSpelled = (g : Gaps) → counted (spelled g) ≡ g

-- a settled gap form is spelled by operations merged and in order
abbrev pub SpelledIsBuilt : Type 0
SpelledIsBuilt = (g : Gaps) → IsTrue (is_built (spelled (settled g)))

-- the normal form of a gap form is in normal form
abbrev pub NormalIsNormal : Type 0
NormalIsNormal = (g : Gaps) → IsNormal (nf g)

-- what a builder keeps represents all that it was given, whatever comes after
abbrev pub BuiltInPieces : Type 0
BuiltInPieces = (a b : List Operation) → built (built a ++ b) ≡ built (a ++ b)

abbrev pub BuiltFromPieces : Type 0
BuiltFromPieces = (a b : List Operation) → built (a ++ built b) ≡ built (a ++ b)

-- and at the end
abbrev pub NormalOfBuilt : Type 0
NormalOfBuilt = (ops : List Operation) → nf (counted (built ops)) ≡ nf (counted ops)

-- operations after others have their effect on what stands after
abbrev pub EffectOfParts : Type 0
EffectOfParts = (d e : List Element) (a b : List Operation) → base_of a ≡ length d
    → apply (d ++ e) (counted (a ++ b)) ≡ apply d (counted a) ++ apply e (counted b)

-- no operation leaves a document as it is, and what stands after the base length stays
abbrev pub EffectOfNothing : Type 0
EffectOfNothing = (d : List Element) → apply d (counted []) ≡ d

abbrev pub EffectPastEnd : Type 0
EffectPastEnd = (d e : List Element) (ops : List Operation) → base_of ops ≤ length d → apply (d ++ e) (counted ops) ≡ apply d (counted ops) ++ e

-- an insert stands before the rest, a retain keeps units with its change, a delete leaves none of them
abbrev pub EffectOfText : Type 0
EffectOfText = (d : List Element) (us : List ℕ) (a : Attributes) (ops : List Operation)
    → apply d (counted (insert_text us a ∷ ops)) ≡ letters us a ++ apply d (counted ops)

abbrev pub EffectOfEmbed : Type 0
EffectOfEmbed = (d : List Element) (key : List ℕ) (value : Scalar) (a : Attributes) (ops : List Operation)
    → apply d (counted (insert_embed key value a ∷ ops)) ≡ embedded key value a ∷ apply d (counted ops)

abbrev pub EffectOfRetain : Type 0
EffectOfRetain = (d e : List Element) (n : ℕ) (c : Changes) (ops : List Operation) → n ≡ length d
    → apply (d ++ e) (counted (retain n c ∷ ops)) ≡ map (λ (x : Element). record x { attributes = changed x.attributes c }) d ++ apply e (counted ops)

abbrev pub EffectOfDelete : Type 0
EffectOfDelete = (d e : List Element) (n : ℕ) (ops : List Operation) → n ≡ length d
    → apply (d ++ e) (counted (delete n ∷ ops)) ≡ apply e (counted ops)

-- settling, trimming, the built form and the normal form each leave the effect on any document
abbrev pub EffectOfSettled : Type 0
EffectOfSettled = (d : List Element) (g : Gaps) → apply d (settled g) ≡ apply d g

abbrev pub EffectOfTrimmed : Type 0
EffectOfTrimmed = (d : List Element) (g : Gaps) → apply d (trimmed g) ≡ apply d g

abbrev pub EffectOfBuilt : Type 0
EffectOfBuilt = (d : List Element) (ops : List Operation) → apply d (counted (built ops)) ≡ apply d (counted ops)

abbrev pub EffectOfNormal : Type 0
EffectOfNormal = (d : List Element) (g : Gaps) → apply d (counted (nf g)) ≡ apply d g

-- two lists in normal form that are counted out, settled and trimmed to the same are one list
abbrev pub SameForm : Type 0
SameForm = (a b : List Operation) → IsNormal a → IsNormal b → trimmed (settled (counted a)) ≡ trimmed (settled (counted b)) → a ≡ b

-- two lists have the same effect on each document that is long enough for both
abbrev pub HaveSameEffect : List Operation → List Operation → Type 0
HaveSameEffect a b = (d : List Element) → base_of a ≤ length d → base_of b ≤ length d → apply d (counted a) ≡ apply d (counted b)

-- two lists in normal form with the same effect are one list
abbrev pub SameEffect : Type 0
SameEffect = (a b : List Operation) → IsNormal a → IsNormal b → HaveSameEffect a b → a ≡ b

-- and that on the documents from any length on
abbrev pub SameEffectFrom : Type 0
SameEffectFrom = (m : ℕ) (a b : List Operation) → IsNormal a → IsNormal b
    → ((d : List Element) → m ≤ length d → apply d (counted a) ≡ apply d (counted b)) → a ≡ b

-- any two lists have the same effect exactly where they have one normal form
abbrev pub NormalOfSameEffect : Type 0
NormalOfSameEffect = (a b : List Operation) → HaveSameEffect a b ↔ (nf (counted a) ≡ nf (counted b))

-- the built form has the lengths of the operations
abbrev pub LengthsOfBuilt : Type 0
LengthsOfBuilt = (ops : List Operation) → (base_of (built ops) ≡ base_of ops) × (out_of (built ops) ≡ out_of ops)

-- the normal form has them less the plain retain that was last: as much of the one as of the other
abbrev pub LengthsOfNormal : Type 0
LengthsOfNormal = (ops : List Operation)
    → (base_of (nf (counted ops)) ≤ base_of ops) × (base_of (nf (counted ops)) + out_of ops ≡ base_of ops + out_of (nf (counted ops)))

-- the normal form of a gap form speaks of no more units
abbrev pub BaseOfNormal : Type 0
BaseOfNormal = (g : Gaps) → base_of (nf g) ≤ units_below g

-- so both forms stay within the bound
abbrev pub BoundOfBuilt : Type 0
BoundOfBuilt = (ops : List Operation) → IsBounded ops → IsBounded (built ops)

abbrev pub BoundOfNormal : Type 0
BoundOfNormal = (ops : List Operation) → IsBounded ops → IsBounded (nf (counted ops))

-- the length of a document after operations that it is long enough for
abbrev pub LengthOfEffect : Type 0
LengthOfEffect = (d : List Element) (ops : List Operation) → base_of ops ≤ length d
    → length (apply d (counted ops)) ≡ length d - base_of ops + out_of ops
