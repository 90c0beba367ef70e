use Rattle.std.proofs.Common.{◌≡◌, ◌≤◌, ◌+◌, ◌-◌, ◌^◌, drop, map, min}
use Rattle.revision.specs.Pending.{record_of}
use Rattle.inspection.specs.Matching.{changes_in}
use Rattle.inspection.proofs.matching.changes_in.Given as goal

-- with those that are left it comes to what they all hold
abbrev pub invariant-loop-document : goal.invariant-loop-document
invariant-loop-document l = record {
  range : l.count ≤ 2 ^ 64 - 1;
  all : min (l.count + changes_in (map record_of (drop l.document-index l.document-items))) (2 ^ 64 - 1)
      ≡ min (changes_in (map record_of l.document-items)) (2 ^ 64 - 1);
}
