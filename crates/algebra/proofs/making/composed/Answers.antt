use Rattle.algebra.proofs.Outcomes.{composing-from}
use Rattle.algebra.proofs.making.composed.Goals as goal

pub returns : goal.returns
returns c = composing-from c.args.first.now c.args.second.now c.compose.result c.compose.ensures.one c.compose.ensures.accepted c.compose.ensures.only
