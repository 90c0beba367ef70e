-- What an operation of the program is, as an operation.
use Rattle.std.specs.Prelude.{◌≡◌, ℕ, string_bytes}
use Rattle.utf16.specs.Units.{units_of}
use Rattle.delta.specs.Operation.{Operation, insert_text, insert_embed, retain, delete, op_len}
use Rattle.delta.specs.declared.op.Kind.{Kind}
use Rattle.delta.specs.declared.op.Kind.TheVariants as kind
use Rattle.delta.specs.declared.op.OpRef.{OpRef}
use Rattle.delta.specs.declared.op.OpRef.TheVariants as op_ref

abbrev pub operation_of_kind : ℕ → Kind → Operation
operation_of_kind len (kind.Text text a) = insert_text (units_of (string_bytes text)) a
operation_of_kind len (kind.Embed embed a) = insert_embed embed.value.name embed.value.value a
operation_of_kind len (kind.Retain c) = retain len c
operation_of_kind len kind.Delete = delete len

-- its length is kept beside it
abbrev pub HasLength : ℕ → Kind → Type 0
HasLength len k = len ≡ op_len (operation_of_kind len k)

-- the operation that a borrowed one shows
abbrev pub operation_of : OpRef → Operation
operation_of (op_ref.Text text a) = insert_text (units_of text.now) a.now
operation_of (op_ref.Embed name value a) = insert_embed name.now value.now a.now
operation_of (op_ref.Retain len c) = retain len c.now
operation_of (op_ref.Delete len) = delete len
