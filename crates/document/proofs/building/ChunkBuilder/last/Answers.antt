use Rattle.std.proofs.Common.{◌-◌, ◌++◌, arith, ap, sym, ◌∙◌, append-nil}
use Rattle.std.proofs.lemmas.List.{nil_from_length}
use Rattle.document.specs.Chunks.{runs_of_chunks}
use Rattle.document.specs.Runs.{last_attributes}
use Rattle.document.proofs.Chunked.{last_read, last_chunk_read, last_attributes-append}
use Rattle.document.proofs.building.ChunkBuilder.last.Goals as goal

pub returns-then-loose-gt0-clause-some : goal.returns-then-loose-gt0-clause-some
returns-then-loose-gt0-clause-some c =
    let loose = c.self.inside.loose in
    ap last_attributes (sym c.self.view_is)
    ∙ (last_attributes-append (runs_of_chunks c.self.inside.made.items) loose.items (omega (arith, loose.ok.0))
    ∙ last_read loose.items (c.len-loose.result - 1) c.index.result.now (omega (arith, loose.ok.0)) c.index.ensures)

pub returns-then-made-gt0-clause-some : goal.returns-then-made-gt0-clause-some
returns-then-made-gt0-clause-some c =
    let loose = c.self.inside.loose in
    let made = c.self.inside.made in
    ap last_attributes (sym c.self.view_is)
    ∙ (ap (λ l. last_attributes (runs_of_chunks made.items ++ l)) (nil_from_length loose.items (omega (arith, loose.ok.0)))
    ∙ (ap last_attributes (append-nil (runs_of_chunks made.items))
    ∙ (last_chunk_read made.items (c.len-made.result - 1) c.index-then-made-gt0.result.now (omega (arith, made.ok.0)) c.index-then-made-gt0.ensures c.self.invariant.0
    ∙ c.last.ensures)))
