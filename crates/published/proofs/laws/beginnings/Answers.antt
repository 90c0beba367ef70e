use Rattle.published.proofs.Beginnings.{prefix_self, prefix_trans, prefix_shorter, prefix_whole}
use Rattle.published.proofs.laws.beginnings.Goals as goal

pub returns-clause-itself : goal.returns-clause-itself
returns-clause-itself c = prefix_self

pub returns-clause-through : goal.returns-clause-through
returns-clause-through c = prefix_trans

pub returns-clause-shorter : goal.returns-clause-shorter
returns-clause-shorter c = prefix_shorter

pub returns-clause-whole : goal.returns-clause-whole
returns-clause-whole c = prefix_whole
