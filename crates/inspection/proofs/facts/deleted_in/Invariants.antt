use Rattle.std.proofs.Common.{◌≡◌, ◌+◌, ◌≤◌, drop, map}
use Rattle.revision.specs.Pending.{record_of}
use Rattle.inspection.specs.Filled.{deleted_in}
use Rattle.inspection.proofs.facts.deleted_in.Given as goal

-- with those that are left it comes to all that are deleted
abbrev pub invariant-loop-document : goal.invariant-loop-document
invariant-loop-document l = record {
  within : l.count ≤ l.document-index;
  all : l.count + deleted_in (map record_of (drop l.document-index l.document-items)) ≡ deleted_in (map record_of l.document-items);
}
