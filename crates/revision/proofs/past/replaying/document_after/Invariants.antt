use Rattle.std.proofs.Common.{◌≡◌, take, drop}
use Rattle.compose.specs.Many.{applied}
use Rattle.revision.specs.Past.{StandInTurn}
use Rattle.revision.proofs.past.replaying.document_after.Given as goal

-- what is left of the deltas stands on the document, and leads to the same one
abbrev pub invariant-loop-taken : goal.invariant-loop-taken
invariant-loop-taken l = record {
  so_far : applied l.document (drop l.taken-index (take l.count l.deltas)) ≡ applied l.base (take l.count l.deltas);
  stand : StandInTurn l.document (drop l.taken-index (take l.count l.deltas));
}
