use Rattle.std.proofs.Common.{◌≡◌}
use Rattle.revision.proofs.past.documents.Documents.prune_all.Given as goal

abbrev pub invariant-loop-taken : goal.invariant-loop-taken
invariant-loop-taken l = l.self ≡ l.fn.self
