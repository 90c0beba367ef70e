use Rattle.std.proofs.Common.{◌≡◌, ◌++◌, List, length}
use Rattle.delta.specs.Element.{Element}
use Rattle.delta.specs.Gaps.{End}
use Rattle.delta.specs.Normal.{spelled}
use Rattle.document.proofs.document.Document.as_delta.Given as goal

abbrev pub invariant-loop-left : goal.invariant-loop-left
invariant-loop-left l = record {
  made : (us : List Element) × (l.builder ≡ spelled (End us)) × (us ++ l.cursor ≡ l.self);
  left : l.left ≡ length l.cursor;
}

abbrev pub decreases-loop-left : goal.decreases-loop-left
decreases-loop-left l = l.left
