use Rattle.std.proofs.Common.{◌++◌, ap, ◌∙◌}
use Rattle.document.proofs.Chunked.{put_behind}
use Rattle.document.proofs.building.ChunkBuilder.extend_chunks.Goals as goal

pub returns : goal.returns
returns c = record {
  ok =
      put_behind c.close.new.made.items _ c.args.chunks.now _ _ c.in_ok-close.ensures.none
      (c.in_ok-extend_made.ensures.items ∙ ap (λ l. l ++ c.args.chunks.now) c.reserve.ensures.items) (c.in_ok-close.ensures.runs ∙ c.self.view_is);
}
