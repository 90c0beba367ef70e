-- The document that a delta makes of the empty one.
use Rattle.std.specs.Prelude.{List, []}
use Rattle.delta.specs.Element.{Element}
use Rattle.delta.specs.Operation.{Operation}
use Rattle.delta.specs.Gaps.{counted, apply}

-- The empty document has no unit, so only a delta that neither retains nor deletes is defined on it, and makes what it inserts.
-- Of any other the definition may stop there: `Document::from_delta` refuses it, and nobody asks what it would make.
abbrev pub document_from : List Operation → List Element
document_from delta = apply [] (counted delta)
