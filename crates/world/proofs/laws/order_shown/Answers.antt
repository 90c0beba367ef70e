use Rattle.world.proofs.Showing.{shown-fold, fold_shown-append}
use Rattle.world.proofs.Histories.{placed-take}
use Rattle.world.proofs.Standing.{stands-take}
use Rattle.world.proofs.laws.order_shown.Goals as goal

pub returns-clause-fold : goal.returns-clause-fold
returns-clause-fold c = shown-fold

pub returns-clause-joined : goal.returns-clause-joined
returns-clause-joined c = fold_shown-append

pub returns-clause-placed : goal.returns-clause-placed
returns-clause-placed c = placed-take

pub returns-clause-stands : goal.returns-clause-stands
returns-clause-stands c = stands-take
