use Rattle.disk.proofs.Moments.{leaves_map}
use Rattle.disk.proofs.laws.run_implies.Goals as goal

pub returns : goal.returns
returns g c old new = leaves_map
