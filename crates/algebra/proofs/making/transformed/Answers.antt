use Rattle.algebra.proofs.Outcomes.{transforming-from}
use Rattle.algebra.proofs.making.transformed.Goals as goal

pub returns : goal.returns
returns c = transforming-from c.args.first.now c.args.second.now c.args.priority c.transform.result c.transform.ensures.delta c.transform.ensures.accepted c.transform.ensures.only
