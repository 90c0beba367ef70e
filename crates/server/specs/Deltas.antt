-- Why a command on deltas ends without a line.
use Rattle.std.specs.Prelude.{◌≡◌, ◌⊎◌, Err}
use Rattle.refusal.specs.declared.Refusal.TheVariants.{NoMemory}
use Rattle.algebra.specs.Tasks.{ComesTo}
use Rattle.algebra.specs.declared.task.Task.{Task}
use Rattle.serving.specs.declared.failure.ServingError.{ServingError}
use Rattle.serving.specs.declared.failure.ServingError.TheVariants.{Refused, Stream}

-- by the refusal that the task comes to, as memory ran out, or since the stream failed
abbrev pub EndsWith : Task → ServingError → Type 0
EndsWith task (Refused refusal) = ComesTo task (Err refusal) ⊎ (refusal ≡ NoMemory)
EndsWith task Stream = Unit {0}
