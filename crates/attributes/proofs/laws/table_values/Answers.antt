use Rattle.attributes.proofs.Maps.{same_map, get-insert, get-remove}
use Rattle.attributes.proofs.laws.table_values.Goals as goal

pub returns-clause-same : goal.returns-clause-same
returns-clause-same g c = same_map

pub returns-clause-put : goal.returns-clause-put
returns-clause-put g c = get-insert

pub returns-clause-removed : goal.returns-clause-removed
returns-clause-removed g c = get-remove
