use Rattle.revision.proofs.Room.{inserted_stay, light_inserts}
use Rattle.revision.proofs.laws.inserted_stay.Goals as goal

pub returns-clause-stay : goal.returns-clause-stay
returns-clause-stay c = inserted_stay

pub returns-clause-light : goal.returns-clause-light
returns-clause-light c = light_inserts
