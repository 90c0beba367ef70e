-- An input as callers see it.
use Rattle.std.specs.Prelude.{Bool}
use Rattle.serving.specs.declared.input.InputStream.{InputStream}

-- the reader of an input
abbrev pub reader_of : {I : Type 0} → InputStream I → I
reader_of input = input.reader

-- a read of it has failed
abbrev pub failed_of : {I : Type 0} → InputStream I → Bool
failed_of input = input.failed
