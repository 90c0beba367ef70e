use Rattle.milestone.proofs.InTurn.{wants_memory}
use Rattle.milestone.proofs.ByHalves.{lengths-many}
use Rattle.milestone.proofs.part.one_for_few.Goals as goal

pub as_alloc_error-requires : goal.as_alloc_error-requires
as_alloc_error-requires c = wants_memory c.args.deltas.now c.in-Err.refusal c.requires c.in-Err.ensures.memory

pub returns-in-Ok-clause-composes : goal.returns-in-Ok-clause-composes
returns-in-Ok-clause-composes c = record { all = c.in-Ok.ensures.composes; whole = c.in-Ok.ensures.whole }

pub returns-in-Ok-clause-lengths : goal.returns-in-Ok-clause-lengths
returns-in-Ok-clause-lengths c = lengths-many c.args.deltas.now c.in-Ok.one c.in-Ok.ensures.one
