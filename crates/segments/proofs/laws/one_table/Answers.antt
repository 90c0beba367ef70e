use Rattle.segments.proofs.OneTable.{one_table}
use Rattle.segments.proofs.laws.one_table.Goals as goal

pub returns : goal.returns
returns c = one_table
