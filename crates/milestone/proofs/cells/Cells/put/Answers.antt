use Rattle.std.proofs.Common.{inl}
use Rattle.disk.specs.Crash.{history_of}
use Rattle.disk.proofs.CallerLemmas.{begins}
use Rattle.milestone.proofs.Freeing.{as_it_was}
use Rattle.milestone.proofs.cells.Cells.put.Goals as goal

-- nothing was called
pub returns-in_err-bytes-clause-any_moment : goal.returns-in_err-bytes-clause-any_moment
returns-in_err-bytes-clause-any_moment g c pair synced fits = begins (history_of g.D.Disk c.args.disk.now) synced (inl (as_it_was _ _ pair fits c.requires.within))
