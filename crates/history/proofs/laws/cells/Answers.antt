use Rattle.history.proofs.HeldCells.{held_is_cell, cells_stay}
use Rattle.history.proofs.Reached.{cells_reach, one_cell_at}
use Rattle.history.proofs.laws.cells.Goals as goal

pub returns-clause-held : goal.returns-clause-held
returns-clause-held c = held_is_cell

pub returns-clause-stay : goal.returns-clause-stay
returns-clause-stay c = cells_stay

pub returns-clause-reach : goal.returns-clause-reach
returns-clause-reach c = cells_reach

pub returns-clause-one : goal.returns-clause-one
returns-clause-one c = one_cell_at
