use Rattle.document.specs.Chunks.{runs_of_chunks}
use Rattle.document.proofs.Joined.{IsWellFormed-runs}
use Rattle.document.proofs.document.Document.of_chunks.Goals as goal

pub returns-clause-well_formed : goal.returns-clause-well_formed
returns-clause-well_formed c = IsWellFormed-runs (runs_of_chunks c.args.chunks.items) c.requires.chunks.1
