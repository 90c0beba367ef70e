use Rattle.std.proofs.Common.{rules}
use Rattle.turns.proofs.turn.stop_for.Goals as goal

-- it is neither out of memory nor a fault of the device
pub full-requires : goal.full-requires
full-requires g c = c.requires.full (search rules) (search rules)
