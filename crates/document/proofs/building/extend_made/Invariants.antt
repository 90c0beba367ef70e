use Rattle.std.proofs.Common.{◌≡◌, ◌++◌, take}
use Rattle.document.proofs.building.extend_made.Given as goal

abbrev pub invariant-loop-chunk : goal.invariant-loop-chunk
invariant-loop-chunk l = l.made.items ≡ l.initial.made.items ++ take l.chunk-index l.chunks
