use Rattle.std.proofs.Common.{◌≡◌, ◌≤◌, length, take}
use Rattle.std.specs.BTreeMap.{get_by_text}
use Rattle.revision.specs.steps.DocumentsView.{names_of}
use Rattle.revision.specs.steps.Index.{IsIndex, NoneTwice}
use Rattle.revision.proofs.past.documents.drop_creations.Given as goal

abbrev pub invariant-loop-documents : goal.invariant-loop-documents
invariant-loop-documents l = record {
  held : take l.count l.documents.items ≡ take l.count l.fn.documents.items;
  some : l.count ≤ length l.documents.items;
  index : IsIndex (get_by_text l.names.map) (names_of l.documents.items);
  once : NoneTwice (names_of l.documents.items);
}

abbrev pub decreases-loop-documents : goal.decreases-loop-documents
decreases-loop-documents l = length l.documents.items
