use Rattle.std.proofs.Common.{◌≡◌, map, take}
use Rattle.std.specs.Prelude.{All}
use Rattle.serde_json.specs.View.{view}
use Rattle.optext.specs.Laws.{HasSpellableContent}
use Rattle.optext.specs.Printed.{printed_operation}
use Rattle.optext.proofs.writing.write_ops.Given as goal

-- the items so far print the operations so far, which keep what operations keep
abbrev pub invariant-loop-op : goal.invariant-loop-op
invariant-loop-op l = record {
  printed : map view l.items.items ≡ map printed_operation (take l.op-index l.ops);
  kept : All HasSpellableContent (take l.op-index l.ops);
}
