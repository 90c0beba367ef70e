-- A log, as contracts see it.
use Rattle.std.specs.Prelude.{List}
use Rattle.logbook.specs.Pages.{Book}

-- which log it is, and its items, the oldest first
pub record Log (T : Type 0) : Type 0 where
  pub book : Book
  pub items : List T
