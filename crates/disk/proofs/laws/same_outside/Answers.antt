use Rattle.disk.proofs.Contents.{same_at, same_outside_wider, same_outside_then}
use Rattle.disk.proofs.laws.same_outside.Goals as goal

pub returns-clause-places : goal.returns-clause-places
returns-clause-places c = same_at

pub returns-clause-wider : goal.returns-clause-wider
returns-clause-wider c = same_outside_wider

pub returns-clause-then : goal.returns-clause-then
returns-clause-then c = same_outside_then
