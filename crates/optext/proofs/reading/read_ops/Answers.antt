use Rattle.std.proofs.Common.{◌++◌, [], ◌∷◌, sym, ap, subst, ◌∙◌, inl}
use Rattle.std.proofs.lemmas.Result.{err_from_is_err_and}
use Rattle.std.specs.Prelude.{Ok}
use Rattle.delta.specs.Operation.{IsBounded}
use Rattle.optext.proofs.Deltas.{delta_of-many, delta_of-few, bounded_from, refused_op, refused_push, left-more, left-all}
use Rattle.optext.proofs.reading.read_ops.Goals as goal

pub returns-then-operations-gt-MAX_OPERATIONS : goal.returns-then-operations-gt-MAX_OPERATIONS
returns-then-operations-gt-MAX_OPERATIONS c = inl (sym (delta_of-many c.args.operations.now c.if-operations-gt-MAX_OPERATIONS.true))

pub returns-in_err-op : goal.returns-in_err-op
returns-in_err-op c =
    let p = err_from_is_err_and c.from_residual.result c.from_residual.ensures.1 in
    rw (p.1, p.2, delta_of-few c.args.operations.now c.if-operations-gt-MAX_OPERATIONS.false)
    (refused_op c.args.operations.now c.loop-operation.operation-index c.operation-item.result c.loop-operation-test.true c.operation-item.is c.loop-operation.builder c.loop-operation.invariant.due c.in_err-op.field-0.0 c.in_err-op.ensures)

pub returns-in_err-push : goal.returns-in_err-push
returns-in_err-push c =
    let p = err_from_is_err_and c.from_residual-in_err-push.result c.from_residual-in_err-push.ensures.1 in
    rw (p.1, p.2, delta_of-few c.args.operations.now c.if-operations-gt-MAX_OPERATIONS.false)
    (refused_push c.args.operations.now c.loop-operation.operation-index c.operation-item.result c.loop-operation-test.true c.operation-item.is c.loop-operation.builder c.loop-operation.invariant.due c.in_ok-op.op c.in_err-push.field-0.0 c.in_ok-op.ensures c.in_err-push.ensures.bad c.in_err-push.ensures.only)

pub loop-operation-preserved : goal.loop-operation-preserved
loop-operation-preserved c =
    let within : IsBounded (c.loop-operation.builder ++ c.in_ok-op.op ∷ []) = bounded_from _ (λ over. absurd (cc (c.in_ok-push.ensures.bad.1 over))) in
    record {
      bounded = subst IsBounded (sym c.in_ok-push.ensures.ok) (c.bound_of_built.ensures (c.loop-operation.builder ++ c.in_ok-op.op ∷ []) within);
      due = rw c.in_ok-push.ensures.ok
          (left-more c.args.operations.now c.loop-operation.operation-index c.operation-item.result c.loop-operation-test.true c.operation-item.is c.loop-operation.builder c.loop-operation.invariant.due c.built_in_pieces.ensures c.normal_of_built.ensures c.lengths_of_built.ensures c.in_ok-op.op c.in_ok-op.ensures);
    }

pub returns : goal.returns
returns c =
    inl (ap Ok c.finish.ensures
    ∙ sym (delta_of-few c.args.operations.now c.if-operations-gt-MAX_OPERATIONS.false
    ∙ left-all c.args.operations.now c.loop-operation.operation-index c.loop-operation.builder c.loop-operation-test.false c.loop-operation.invariant.bounded c.loop-operation.invariant.due))
