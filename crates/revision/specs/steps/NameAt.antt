-- Whether the entry at a place among sources is of a name.
use Rattle.std.specs.Prelude.{ℕ, bytes_eq, Bool, false, Option, Some, None, List}
use Rattle.revision.specs.Window.{Window}

-- the entry, where there is one, has this name
abbrev pub has_name : List ℕ → Option (List ℕ × Window) → Bool
has_name name None = false
has_name name (Some entry) = bytes_eq name entry.0
