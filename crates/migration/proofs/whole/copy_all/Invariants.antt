use Rattle.std.proofs.Common.{◌≡◌, length, map}
use Rattle.revision.specs.Pending.{record_of}
use Rattle.migration.specs.Migrated.{AreSpelled}
use Rattle.migration.proofs.CopiedSoFar.{AreCopiedTo}
use Rattle.migration.proofs.whole.copy_all.Given as goal

-- the first documents are copied
abbrev pub invariant-loop-document : goal.invariant-loop-document
invariant-loop-document l = record {
  count : length l.start.items ≡ l.document-index;
  copied : AreCopiedTo (map record_of l.documents) l.start.items;
  spelled : AreSpelled l.start.items;
}
