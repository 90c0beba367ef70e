use Rattle.std.proofs.Common.{length, arith, ap, sym, subst, length-append}
use Rattle.document.specs.Runs.{IsApart, last_attributes, units_of_runs}
use Rattle.document.proofs.Chunked.{extended, extended_chunks, first_of_chunks, first_chunk, first_chunk_runs, first_chunk_length}
use Rattle.document.proofs.runs.put_chunks.Goals as goal

pub returns-then-goes_before-clause-ok : goal.returns-then-goes_before-clause-ok
returns-then-goes_before-clause-ok c =
    (extended _ _ _ c.in_ok-extend_chunks.ensures.ok c.requires.kept c.requires.chunks.1
    (subst (IsApart (last_attributes c.args.runs.now)) (sym (first_of_chunks c.args.chunks.now c.index-chunks-0.result c.requires.some c.index-chunks-0.is c.requires.chunks.0)) (c.goes_before.ensures c.if-goes_before.true))).0

pub returns-then-goes_before-clause-kept : goal.returns-then-goes_before-clause-kept
returns-then-goes_before-clause-kept c =
    (extended _ _ _ c.in_ok-extend_chunks.ensures.ok c.requires.kept c.requires.chunks.1
    (subst (IsApart (last_attributes c.args.runs.now)) (sym (first_of_chunks c.args.chunks.now c.index-chunks-0.result c.requires.some c.index-chunks-0.is c.requires.chunks.0)) (c.goes_before.ensures c.if-goes_before.true))).1

pub put_runs-requires-clause-more : goal.put_runs-requires-clause-more
put_runs-requires-clause-more c =
    first_chunk_runs c.args.chunks.now _ c.runs.result.now (first_chunk c.args.chunks.now c.index-chunks-0.result c.runs.result.now c.requires.some c.index-chunks-0.is c.runs.ensures.runs) c.requires.chunks

pub put_runs-requires-clause-bound : goal.put_runs-requires-clause-bound
put_runs-requires-clause-bound c =
    omega (arith, first_chunk_length c.args.chunks.now _ c.runs.result.now (first_chunk c.args.chunks.now c.index-chunks-0.result c.runs.result.now c.requires.some c.index-chunks-0.is c.runs.ensures.runs), c.requires.bound)

pub extend_chunks-requires-2-clause-bound : goal.extend_chunks-requires-2-clause-bound
extend_chunks-requires-2-clause-bound c =
    omega (
      arith,
      ap length c.in_ok-put_runs.ensures.ok,
      length-append (units_of_runs c.args.runs.now) (units_of_runs c.runs.result.now),
      first_chunk_length c.args.chunks.now _ c.runs.result.now (first_chunk c.args.chunks.now c.index-chunks-0.result c.runs.result.now c.requires.some c.index-chunks-0.is c.runs.ensures.runs),
      c.requires.bound,
    )

pub returns-clause-ok : goal.returns-clause-ok
returns-clause-ok c =
    (extended_chunks c.args.runs.now c.put_runs.new.runs _ c.runs.result.now c.args.chunks.now _ (first_chunk c.args.chunks.now c.index-chunks-0.result c.runs.result.now c.requires.some c.index-chunks-0.is c.runs.ensures.runs)
    c.in_ok-put_runs.ensures.ok c.in_ok-put_runs.ensures.kept c.in_ok-put_runs.ensures.last c.requires.chunks c.in_ok-extend_chunks-2.ensures.ok).0

pub returns-clause-kept : goal.returns-clause-kept
returns-clause-kept c =
    (extended_chunks c.args.runs.now c.put_runs.new.runs _ c.runs.result.now c.args.chunks.now _ (first_chunk c.args.chunks.now c.index-chunks-0.result c.runs.result.now c.requires.some c.index-chunks-0.is c.runs.ensures.runs)
    c.in_ok-put_runs.ensures.ok c.in_ok-put_runs.ensures.kept c.in_ok-put_runs.ensures.last c.requires.chunks c.in_ok-extend_chunks-2.ensures.ok).1
