use Rattle.std.proofs.Common.{◌∙◌, Bool, cond, sym, ap}
use Rattle.attributes.specs.Map.{insert, get}
use Rattle.attributes.specs.Attributes.{reverted}
use Rattle.attributes.proofs.Places.{read_at}
use Rattle.attributes.proofs.Prefixes.{prefix, reverted-none, reverted-more, insert-same}
use Rattle.attributes.proofs.changing.invert.Goals as goal
use Rattle.attributes.proofs.changing.invert.Goals.{then-not-stands_at+in_ok-copy+in_ok-copy_at+in_ok-set, else-not-stands_at}

pub loop-key-init : goal.loop-key-init
loop-key-init c = c.new-back.ensures ∙ reverted-none c.args.change.now c.args.attrs.now

pub loop-key-preserved : goal.loop-key-preserved
loop-key-preserved c =
    let read = read_at _ c.args.change.now.entries c.loop-key.key-index c.loop-key-item.result c.entries-key-items.ensures c.loop-key-test.true c.loop-key-item.is in
    let more = reverted-more c.args.attrs.now c.args.change.now c.loop-key.key-index c.loop-key-item.result read.0 read.1 in
    let kept = reverted (prefix c.args.change.now c.loop-key.key-index) c.args.attrs.now in
    let choice = λ (b : Bool). cond b kept (insert kept c.loop-key-item.result.0 (get c.args.attrs.now c.loop-key-item.result.0)) in
    elim c.if-not-stands_at.branch [
      | then-not-stands_at+in_ok-copy+in_ok-copy_at+in_ok-set w ↦
          w.back-is ∙ (w.in_ok-set.ensures.ok ∙ (insert-same c.loop-key.invariant w.in_ok-copy.ensures.same w.in_ok-copy_at.ensures.same ∙ (ap choice (sym w.if-not-stands_at.true ∙ c.stands_at.ensures) ∙ more)))
      | else-not-stands_at w ↦ w.back-is ∙ (c.loop-key.invariant ∙ (ap choice (sym w.if-not-stands_at.false ∙ c.stands_at.ensures) ∙ more))
    ]
