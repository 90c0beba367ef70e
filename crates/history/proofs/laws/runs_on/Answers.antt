use Rattle.history.proofs.Committing.{commits}
use Rattle.history.proofs.Cells.{changes_cells, frees, puts, retires, covered_by_greatest, begins, begins_with}
use Rattle.history.proofs.laws.runs_on.Goals as goal

pub returns-clause-begin : goal.returns-clause-begin
returns-clause-begin c = begins

pub returns-clause-begin_with : goal.returns-clause-begin_with
returns-clause-begin_with c = begins_with

pub returns-clause-commit : goal.returns-clause-commit
returns-clause-commit c = commits

pub returns-clause-cells : goal.returns-clause-cells
returns-clause-cells c = changes_cells

pub returns-clause-free : goal.returns-clause-free
returns-clause-free c = frees

pub returns-clause-put : goal.returns-clause-put
returns-clause-put c = puts

pub returns-clause-retire : goal.returns-clause-retire
returns-clause-retire c = retires

pub returns-clause-greatest : goal.returns-clause-greatest
returns-clause-greatest c = covered_by_greatest
