use Rattle.attributes.proofs.Places.{set-here, remove-here, insert-free, remove-absent, written, inserted}
use Rattle.attributes.proofs.laws.table_edits.Goals as goal

pub returns-clause-set : goal.returns-clause-set
returns-clause-set g c name es i = set-here

pub returns-clause-removed : goal.returns-clause-removed
returns-clause-removed g c name es i = remove-here

pub returns-clause-inserted : goal.returns-clause-inserted
returns-clause-inserted g c name es i = insert-free

pub returns-clause-absent : goal.returns-clause-absent
returns-clause-absent g c = remove-absent

pub returns-clause-written_list : goal.returns-clause-written_list
returns-clause-written_list g c = written

pub returns-clause-inserted_list : goal.returns-clause-inserted_list
returns-clause-inserted_list g c = inserted
