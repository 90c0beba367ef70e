-- How much a read brings, and a write takes.
use Rattle.std.specs.Prelude.{ℕ, ◌≤◌}
use Rattle.sockets.specs.declared.raw.Got.{Got}
use Rattle.sockets.specs.declared.raw.Got.TheVariants as got
use Rattle.sockets.specs.declared.raw.Put.{Put}
use Rattle.sockets.specs.declared.raw.Put.TheVariants as put

-- a read brings one byte or more, and no more than there is room for
abbrev pub IsWithin : Got → ℕ → Type 0
IsWithin (got.Bytes count) room = (1 ≤ count) × (count ≤ room)
IsWithin got.Nothing room = Unit {0}
IsWithin got.End room = Unit {0}
IsWithin got.Failed room = Unit {0}

-- a write takes one byte or more, and no more than there are
abbrev pub IsTaken : Put → ℕ → Type 0
IsTaken (put.Bytes count) length = (1 ≤ count) × (count ≤ length)
IsTaken put.Nothing length = Unit {0}
IsTaken put.Failed length = Unit {0}
