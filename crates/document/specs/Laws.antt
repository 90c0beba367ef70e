-- What holds of documents and deltas.
use Rattle.std.specs.Prelude.{◌≡◌, ◌+◌, ◌-◌, List, length}
use Rattle.delta.specs.Element.{Element}
use Rattle.delta.specs.Operation.{Operation, base_of, out_of}
use Rattle.delta.specs.Gaps.{Gaps, counted, apply}
use Rattle.delta.specs.Normal.{nf}
use Rattle.document.specs.Pairs.{IsWellFormed}
use Rattle.delta.specs.Places.{IsDefined}
use Rattle.document.specs.Places.{Cuts, InsertsWellFormed}

-- a document stays well formed where no pair is cut and what is inserted at each place is well formed
abbrev pub StaysWellFormed : Type 0
StaysWellFormed = (d : List Element) (g : Gaps) → IsWellFormed d → InsertsWellFormed g → ¬ (Cuts d g) → IsWellFormed (apply d g)

-- the document after a delta depends on the delta's effect alone: on its normal form
abbrev pub EffectAlone : Type 0
EffectAlone = (d : List Element) (g h : Gaps) → nf g ≡ nf h → apply d g ≡ apply d h

-- the length of a document after a delta
abbrev pub LengthAfter : Type 0
LengthAfter = (d : List Element) (ops : List Operation) → IsDefined d (counted ops)
    → length (apply d (counted ops)) ≡ length d - base_of ops + out_of ops
