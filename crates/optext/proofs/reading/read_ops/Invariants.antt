use Rattle.std.proofs.Common.{◌≡◌, drop}
use Rattle.serde_json.specs.View.{items_view}
use Rattle.delta.specs.Operation.{IsBounded}
use Rattle.optext.specs.Described.{operations_of, delta_by}
use Rattle.optext.proofs.Deltas.{delta_with}
use Rattle.optext.proofs.reading.read_ops.Given as goal

-- the operations so far are bounded, and with those that are left they give the delta of all
abbrev pub invariant-loop-operation : goal.invariant-loop-operation
invariant-loop-operation l =
    record {
      bounded : IsBounded l.builder;
      due : delta_by (operations_of (items_view l.operations)) ≡ delta_with l.builder (operations_of (items_view (drop l.operation-index l.operations)));
    }
