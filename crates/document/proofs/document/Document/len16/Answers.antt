use Rattle.std.proofs.Common.{subst}
use Rattle.document.specs.Chunks.{runs_of_chunks}
use Rattle.document.specs.Pairs.{IsWellFormed}
use Rattle.document.proofs.Joined.{IsWellFormed-runs}
use Rattle.document.proofs.document.Document.len16.Goals as goal

pub returns-clause-well_formed : goal.returns-clause-well_formed
returns-clause-well_formed c = subst IsWellFormed c.self.view_is (IsWellFormed-runs (runs_of_chunks c.self.inside.chunks.items) c.self.invariant.1.1)
