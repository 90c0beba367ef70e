use Rattle.revision.proofs.Replays.{stand-take, stand-drop}
use Rattle.revision.proofs.laws.parts_stand.Goals as goal

pub returns : goal.returns
returns c = λ count units deltas stand. (stand-take count units deltas stand, stand-drop count units deltas stand)
