-- What stops a turn.
use Rattle.std.specs.Prelude.{Option, Some, None}
use Rattle.refusal.specs.declared.Refusal.{Refusal}
use Rattle.refusal.specs.declared.Refusal.TheVariants.{NoMemory}

-- the refusal that the hub was told of, and `NoMemory` where it was told of none
abbrev pub refusal_of : Option Refusal → Refusal
refusal_of None = NoMemory
refusal_of (Some refusal) = refusal
