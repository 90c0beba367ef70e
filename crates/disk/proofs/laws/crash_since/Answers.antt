use Rattle.disk.proofs.Moments.{leaves_since}
use Rattle.disk.proofs.laws.crash_since.Goals as goal

pub returns : goal.returns
returns g c old new content run left = leaves_since run content left
