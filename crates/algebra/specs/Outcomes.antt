-- What comes of two deltas: a delta, or a refusal. Of the facts that stand beside the outcomes just one holds.
use Rattle.std.specs.Prelude.{◌≡◌, ◌==◌, if◌then◌else◌, Bool, List, Result, Ok, Err}
use Rattle.refusal.specs.declared.Refusal.{Refusal}
use Rattle.refusal.specs.declared.Refusal.TheVariants.{BadOps, PastEnd, CutsPair}
use Rattle.delta.specs.Element.{Element}
use Rattle.delta.specs.Operation.{Operation, base_of}
use Rattle.delta.specs.Gaps.{End, counted, apply}
use Rattle.delta.specs.Normal.{nf}
use Rattle.compose.specs.Composed.{one_for}
use Rattle.compose.specs.Cuts.{CutsText}
use Rattle.compose.specs.Inverse.{inverse}
use Rattle.compose.specs.Outcome.{CanCompose, IsComposedTooLong, CanInvert}
use Rattle.xform.specs.After.{second_past}
use Rattle.xform.specs.Outcome.{CanTransform}
use Rattle.delta.specs.Places.{IsDefined}
use Rattle.document.specs.Places.{Cuts}
use Rattle.document.specs.Making.{document_from}
use Rattle.document.specs.Outcome.{IsAccepted, IsTooLong}

abbrev pub Outcome : Type 0
Outcome = Result (List Operation) Refusal

-- what comes of something, or why it isn't there
abbrev pub Following : {X : Type 0} → Result X Refusal → (X → Outcome → Type 0) → Outcome → Type 0
Following (Ok x) Gives outcome = Gives x outcome
Following (Err refusal) Gives outcome = outcome ≡ Err refusal

-- composing
abbrev pub Composing : List Operation → List Operation → Outcome → Type 0
Composing first second (Ok one) = CanCompose first second × (one ≡ one_for first second)
Composing first second (Err CutsPair) = CutsText first second
Composing first second (Err BadOps) = IsComposedTooLong first second
Composing first second (Err _) = ⊥

-- transforming the second past the first
abbrev pub Transforming : List Operation → List Operation → Bool → Outcome → Type 0
Transforming first second priority (Ok moved) =
    CanTransform first second priority × (moved ≡ second_past first second priority)
Transforming first second priority (Err BadOps) = ¬ (CanTransform first second priority)
Transforming first second priority (Err _) = ⊥

-- the document that a command begins with: what a delta makes of the empty one, which has no unit to retain or to delete
abbrev pub first_document : List Operation → Result (List Element) Refusal
first_document ops = if base_of ops == 0 then Ok (document_from ops) else Err PastEnd

-- taking a delta back on a document
abbrev pub InvertingOn : List Operation → List Element → Outcome → Type 0
InvertingOn ops document (Ok back) =
    CanInvert document (counted ops) × (back ≡ nf (inverse (counted ops) document))
InvertingOn ops document (Err PastEnd) = ¬ (IsDefined document (counted ops))
InvertingOn ops document (Err CutsPair) = IsDefined document (counted ops) × Cuts document (counted ops)
InvertingOn ops document (Err _) = ⊥

-- applying a delta to a document: the delta that makes the document after it
abbrev pub ApplyingOn : List Operation → List Element → Outcome → Type 0
ApplyingOn ops document (Ok made) = IsAccepted document (counted ops) × (made ≡ nf (End (apply document (counted ops))))
ApplyingOn ops document (Err PastEnd) = ¬ (IsDefined document (counted ops))
ApplyingOn ops document (Err CutsPair) = IsDefined document (counted ops) × Cuts document (counted ops)
ApplyingOn ops document (Err BadOps) = IsTooLong document (counted ops)
ApplyingOn ops document (Err _) = ⊥

-- taking back the first on the document that the second makes
abbrev pub Inverting : List Operation → List Operation → Outcome → Type 0
Inverting ops base outcome = Following (first_document base) (InvertingOn ops) outcome

-- applying the second to the document that the first makes
abbrev pub Applying : List Operation → List Operation → Outcome → Type 0
Applying document ops outcome = Following (first_document document) (ApplyingOn ops) outcome
