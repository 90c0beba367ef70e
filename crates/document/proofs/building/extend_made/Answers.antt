use Rattle.std.proofs.Common.{sym, subst}
use Rattle.document.specs.Chunks.{AreSized}
use Rattle.document.proofs.Chunked.{sized_so_far}
use Rattle.document.proofs.building.extend_made.Goals as goal

pub returns-in_err-share-clause-sized : goal.returns-in_err-share-clause-sized
returns-in_err-share-clause-sized c = sized_so_far _ _ _ c.loop-chunk.chunk-index c.loop-chunk.invariant

pub returns-in_err-push-clause-sized : goal.returns-in_err-push-clause-sized
returns-in_err-push-clause-sized c =
    λ before sized. subst AreSized (sym c.in_err-push.ensures.items) (sized_so_far _ _ _ c.loop-chunk.chunk-index c.loop-chunk.invariant before sized)

pub returns-clause-sized : goal.returns-clause-sized
returns-clause-sized c = sized_so_far _ _ _ c.loop-chunk.chunk-index c.loop-chunk.invariant
