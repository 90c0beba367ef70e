-- What a publisher has.
use Rattle.std.specs.Prelude.{List}
use Rattle.revision.specs.Command.{Taken}
use Rattle.recovery.specs.Moment.{Moment}

-- The batches that are published, the oldest first; the one that was given to be published next, if there is one; and of each of these, in
-- order, the moment at which its commit had ended.
pub record Published : Type 0 where
  pub told : List (List Taken)
  pub unpublished : List (List Taken)
  pub moments : List Moment
