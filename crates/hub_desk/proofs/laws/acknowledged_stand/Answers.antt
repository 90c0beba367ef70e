use Rattle.hub_desk.proofs.Acknowledged.{told_through, all_stand}
use Rattle.hub_desk.proofs.laws.acknowledged_stand.Goals as goal

pub returns-clause-told : goal.returns-clause-told
returns-clause-told c = told_through

pub returns-clause-stand : goal.returns-clause-stand
returns-clause-stand c = all_stand
