-- A stream as callers see it.
use Rattle.std.specs.Prelude.{Bool}
use Rattle.session.specs.declared.output.Stream.{Stream}

-- the writer of a stream
abbrev pub writer_of : {W : Type 0} → Stream W → W
writer_of stream = stream.writer

-- a write to it has failed
abbrev pub failed_of : {W : Type 0} → Stream W → Bool
failed_of stream = stream.failed
