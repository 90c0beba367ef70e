use Rattle.std.proofs.Common.{ap}
use Rattle.document.specs.Chunks.{runs_of_chunks}
use Rattle.document.proofs.Deciding.{cut_by_runs}
use Rattle.document.proofs.document.Document.weigh.Goals as goal

pub weighed-requires-clause-whole : goal.weighed-requires-clause-whole
weighed-requires-clause-whole c =
    λ parted. c.in_ok-fits.ensures.whole
    (cut_by_runs (runs_of_chunks c.as_slice.result.now) (runs_of_chunks c.self.inside.chunks.items) c.args.self.now c.ops.result.now c.args.delta.now (ap runs_of_chunks c.as_slice.ensures.value) c.self.view_is c.ops.ensures.ops c.ops.ensures.normal parted)
