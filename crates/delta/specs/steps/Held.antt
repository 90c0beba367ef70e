-- Operations of the program that have one owner or several, as a list.
use Rattle.std.specs.Prelude.{List}
use Rattle.std.specs.Arc.{arc_value}
use Rattle.delta.specs.Operation.{Operation}
use Rattle.delta.specs.declared.ops.Held.{Held}
use Rattle.delta.specs.declared.ops.Held.TheVariants as held

abbrev pub operations_held : Held → List Operation
operations_held (held.Own ops) = ops.items
operations_held (held.Shared ops) = (arc_value ops).items
