use Rattle.attributes.proofs.Maps.{same_name, same_name_from}
use Rattle.attributes.proofs.laws.same_name.Goals as goal

pub returns-clause-tie : goal.returns-clause-tie
returns-clause-tie c = same_name

pub returns-clause-test : goal.returns-clause-test
returns-clause-test c = same_name_from
