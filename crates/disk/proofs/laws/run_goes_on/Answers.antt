use Rattle.disk.proofs.Moments.{goes_on_write, goes_on_first_write, goes_on_sync, goes_on_run}
use Rattle.disk.proofs.laws.run_goes_on.Goals as goal

pub returns-clause-write : goal.returns-clause-write
returns-clause-write g c old mid new at count = goes_on_write

pub returns-clause-first_write : goal.returns-clause-first_write
returns-clause-first_write g c old mid new at count = goes_on_first_write

pub returns-clause-sync : goal.returns-clause-sync
returns-clause-sync g c old mid new = goes_on_sync

pub returns-clause-run : goal.returns-clause-run
returns-clause-run g c old mid new = goes_on_run
