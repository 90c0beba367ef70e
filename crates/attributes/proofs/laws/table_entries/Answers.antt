use Rattle.attributes.proofs.Places.{entries-insert, entries-remove, ascending_as, ascending_if}
use Rattle.attributes.proofs.laws.table_entries.Goals as goal

pub returns-clause-put : goal.returns-clause-put
returns-clause-put g c = entries-insert

pub returns-clause-removed : goal.returns-clause-removed
returns-clause-removed g c = entries-remove

pub returns-clause-ascend : goal.returns-clause-ascend
returns-clause-ascend g c = ascending_as

pub returns-clause-ascend_if : goal.returns-clause-ascend_if
returns-clause-ascend_if g c = ascending_if
