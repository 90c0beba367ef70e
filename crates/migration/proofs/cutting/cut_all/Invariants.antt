use Rattle.std.proofs.Common.{◌≡◌, length, map}
use Rattle.revision.specs.Pending.{record_of}
use Rattle.migration.specs.Migrated.{AreSpelled}
use Rattle.migration.proofs.Cut.{AreCutTo}
use Rattle.migration.proofs.cutting.cut_all.Given as goal

-- the first documents are cut
abbrev pub invariant-loop-document : goal.invariant-loop-document
invariant-loop-document l = record {
  count : length l.start.items ≡ l.document-index;
  cut : AreCutTo (map record_of l.documents) l.start.items;
  spelled : AreSpelled l.start.items;
}
