use Rattle.revision.proofs.Room.{only_memory}
use Rattle.revision.proofs.past.late.past_all.Goals as goal

pub as_alloc_error-requires : goal.as_alloc_error-requires
as_alloc_error-requires c = only_memory c.args.edit c.args.since.now _ c.requires c.in-Err.ensures.only
