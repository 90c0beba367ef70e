-- A map of the program that has no owner yet, or several, as a map.
use Rattle.std.specs.Prelude.{Option, Some, None}
use Rattle.std.specs.Arc.{arc_value}
use Rattle.std.specs.declared.sync.Arc.{Arc}
use Rattle.attributes.specs.Map.{Map, empty}

abbrev pub held : {X Z : Type 0} → Option (Arc (Map X) Z) → Map X
held None = empty
held (Some map) = arc_value map
