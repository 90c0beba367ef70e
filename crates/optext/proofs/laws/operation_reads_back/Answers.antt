use Rattle.optext.proofs.ReadBack.{operation_of-printed}
use Rattle.optext.proofs.laws.operation_reads_back.Goals as goal

pub returns : goal.returns
returns c = operation_of-printed c.entries_make_map.ensures
