use Rattle.std.proofs.Common.{◌+◌, length, arith, ap}
use Rattle.std.proofs.lemmas.List.{take_all}
use Rattle.document.specs.Chunks.{units_of_chunks}
use Rattle.document.proofs.Chunked.{length_chunks-more, length_chunks-before}
use Rattle.document.proofs.weights.chunks_units.Goals as goal

pub overflow_add-units : goal.overflow_add-units
overflow_add-units c =
    let more = length_chunks-more c.args.chunks.now c.loop-chunk.chunk-index c.chunk-item.result c.loop-chunk-test.true c.chunk-item.is in
    omega (arith, more, length_chunks-before c.args.chunks.now (c.loop-chunk.chunk-index + 1), c.requires, c.loop-chunk.invariant, c.len16-units.ensures)

pub loop-chunk-preserved : goal.loop-chunk-preserved
loop-chunk-preserved c =
    let more = length_chunks-more c.args.chunks.now c.loop-chunk.chunk-index c.chunk-item.result c.loop-chunk-test.true c.chunk-item.is in
    omega (arith, more, c.loop-chunk.invariant, c.len16-units.ensures)

pub returns : goal.returns
returns c =
    let all = take_all c.loop-chunk.chunk-index c.args.chunks.now c.loop-chunk-test.false in
    omega (arith, ap (λ l. length (units_of_chunks l)) all, c.loop-chunk.invariant)
