use Rattle.algebra.proofs.Outcomes.{inverting-from}
use Rattle.algebra.proofs.making.inverted_on.Goals as goal

pub returns : goal.returns
returns c = inverting-from c.args.delta.now c.args.document.now c.invert.result c.invert.ensures.one c.invert.ensures.accepted c.invert.ensures.only
