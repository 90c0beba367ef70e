use Rattle.std.proofs.Common.{◌≡◌, ◌-◌, ◌<◌, length, vec_len, arith, ap, sym, ◌∙◌}
use Rattle.document.specs.Runs.{last_attributes}
use Rattle.document.proofs.Chunked.{last_read}
use Rattle.document.proofs.chunk.Chunk.last.Goals as goal

pub returns : goal.returns
returns c =
    let v = c.deref-2.result.now in
    let same : v.items ≡ c.args.self.now = rw c.deref-2.ensures c.self.view_is in
    let some : 0 < length v.items = rw c.deref-2.ensures c.self.invariant.2.0 in
    let len : c.len-len.result ≡ vec_len v = c.len-len.ensures ∙ ap vec_len (c.deref.ensures ∙ sym c.deref-2.ensures) in
    ap last_attributes (sym same) ∙ last_read v.items (c.len-len.result - 1) c.index.result.now (omega (arith, some, len, v.ok.0)) c.index.ensures
