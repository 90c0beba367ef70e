use Rattle.std.proofs.Common.{arith}
use Rattle.revision.proofs.Weights.{weight-noted}
use Rattle.revision.proofs.past.sources.Sources.weight_with.Goals as goal

pub returns : goal.returns
returns c = λ source number revision found.
    let noted = weight-noted c.args.limits source number revision c.args.self.now c.args.found.now (omega (arith, c.weight_more.ensures.retry)) found c.weight_more.ensures.fits in
    omega (arith, noted, c.weight.ensures, c.weight_more.ensures.more, c.saturating_add.ensures)
