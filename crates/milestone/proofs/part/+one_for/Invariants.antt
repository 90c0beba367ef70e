use Rattle.std.proofs.Common.{length}
use Rattle.milestone.proofs.part.+one_for.Given as goal

-- each half is shorter
abbrev pub decreases-one_for : goal.decreases-one_for
decreases-one_for l = length l.deltas.now
