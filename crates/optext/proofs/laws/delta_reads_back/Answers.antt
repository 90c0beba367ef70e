use Rattle.optext.proofs.ReadBack.{delta_of-printed}
use Rattle.optext.proofs.laws.delta_reads_back.Goals as goal

pub returns : goal.returns
returns c = delta_of-printed c.entries_make_map.ensures c.normal_is_kept.ensures
