-- What a borrowed part of an operation is, as an operation, and what operations a cursor has before it.
use Rattle.std.specs.Prelude.{List, ◌∷◌, Option, Some, None}
use Rattle.delta.specs.Operation.{Operation}
use Rattle.delta.specs.Kind.{operation_of}
use Rattle.delta.specs.declared.part.Part.{Part}
use Rattle.delta.specs.declared.cursor.Cursor.{Cursor}

-- the operation that a part is
abbrev pub operation_of_part : Part → Operation
operation_of_part p = operation_of p.op

-- a part, if there is one, and the operations behind it
abbrev pub before : Option Part → List Operation → List Operation
before None ops = ops
before (Some p) ops = operation_of_part p ∷ ops

-- the operations that are left
abbrev pub operations_left : Cursor → List Operation
operations_left c = before c.begun c.rest.now
