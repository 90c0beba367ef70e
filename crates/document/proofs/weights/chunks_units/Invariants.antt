use Rattle.std.proofs.Common.{◌≡◌, length, take}
use Rattle.document.specs.Chunks.{units_of_chunks}
use Rattle.document.proofs.weights.chunks_units.Given as goal

abbrev pub invariant-loop-chunk : goal.invariant-loop-chunk
invariant-loop-chunk l = l.units ≡ length (units_of_chunks (take l.chunk-index l.chunks))
