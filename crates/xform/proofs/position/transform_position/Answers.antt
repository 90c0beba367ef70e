use Rattle.std.proofs.Common.{◌≡◌, inl, inr, ⊎_elim, Bool, true, sym, ap, ◌∙◌}
use Rattle.delta.specs.Operation.{is_insert}
use Rattle.delta.specs.Gaps.{counted}
use Rattle.delta.specs.Kind.{operation_of}
use Rattle.delta.specs.declared.op.OpRef.{OpRef}
use Rattle.xform.specs.Place.{place}
use Rattle.xform.proofs.Places.{drop-op, stands-insert, stands-insert_after, stands-retained, stands-deleted, within_retained, within_deleted}
use Rattle.xform.proofs.position.transform_position.Goals as goal
use Rattle.xform.proofs.position.transform_position.Goals.{in-Text+then-before-gt0, in-Text+else-before-gt0+else-not-priority, in-Retain+else-kept-len, in-Delete+else-deleted-len}

pub returns-then-kept-len : goal.returns-then-kept-len
returns-then-kept-len c =
    within_retained (drop-op c.ops-ops.result.now c.loop-op.op-index c.op-item.result c.loop-op-test.true c.op-item.is) c.loop-op.invariant c.in-Retain.len c.min-kept.result c.in-Retain.field-1.now c.in-Retain.ensures c.min-kept.ensures c.if-kept-len.true
    ∙ ap (λ l. place (counted l) c.args.index c.args.priority) c.ops-ops.ensures.ops

pub returns-then-deleted-len : goal.returns-then-deleted-len
returns-then-deleted-len c =
    within_deleted (drop-op c.ops-ops.result.now c.loop-op.op-index c.op-item.result c.loop-op-test.true c.op-item.is) c.loop-op.invariant c.in-Delete.len c.min-deleted.result c.in-Delete.ensures c.min-deleted.ensures c.if-deleted-len.true
    ∙ ap (λ l. place (counted l) c.args.index c.args.priority) c.ops-ops.ensures.ops

pub loop-op-preserved : goal.loop-op-preserved
loop-op-preserved c =
    let parts = drop-op c.ops-ops.result.now c.loop-op.op-index c.op-item.result c.loop-op-test.true c.op-item.is in
    elim c.match-get.branch [
      | in-Text+then-before-gt0 w ↦ rw (w.place-is, w.before-is, w.out_len-place.ensures) (stands-insert parts c.loop-op.invariant (inserts (⊎_elim (λ t. ap shown t.2) (λ t. ap shown t.3) w.in-Text.is)) (⊎_elim (λ some. inl some) (λ there. inr there.1) w.then-before-gt0.either))
      | in-Text+else-before-gt0+else-not-priority w ↦ rw (w.place-is, w.before-is) (stands-insert_after parts c.loop-op.invariant (inserts (⊎_elim (λ t. ap shown t.2) (λ t. ap shown t.3) w.in-Text.is)) w.if-before-gt0.false w.if-not-priority.false)
      | in-Retain+else-kept-len w ↦ rw (w.place-is, w.before-is) (stands-retained parts c.loop-op.invariant w.in-Retain.len w.min-kept.result w.in-Retain.field-1.now w.in-Retain.ensures w.min-kept.ensures w.if-kept-len.false)
      | in-Delete+else-deleted-len w ↦ rw (w.place-is, w.before-is) (stands-deleted parts c.loop-op.invariant w.in-Delete.len w.min-deleted.result w.in-Delete.ensures w.min-deleted.ensures w.if-deleted-len.false)
    ]
  where
    shown : OpRef → Bool
    shown r = is_insert (operation_of r)

    inserts : is_insert (operation_of c.get.result) ≡ true → is_insert c.op-item.result ≡ true
    inserts shows = ap is_insert (sym c.get.ensures) ∙ shows
