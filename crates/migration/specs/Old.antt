-- What was read of the old device, as the new one is formatted with it.
use Rattle.std.specs.Prelude.{List}
use Rattle.history.specs.Cell.{Cell}
use Rattle.recovery.specs.declared.shape.Shape.{Shape}

pub record Old : Type 0 where
  pub shape : Shape
  pub start : List Cell
