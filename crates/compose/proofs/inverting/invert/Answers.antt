use Rattle.compose.proofs.Inverses.{undone_by}
use Rattle.compose.proofs.inverting.invert.Goals as goal

pub returns-in_ok-undo-in-Ok-clause-undoes : goal.returns-in_ok-undo-in-Ok-clause-undoes
returns-in_ok-undo-in-Ok-clause-undoes c = undone_by c.args.document.now c.args.delta.now _ c.in_ok-undo-in-Ok.ensures.one
