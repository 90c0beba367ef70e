use Rattle.std.proofs.Common.{◌+◌, drop, ◌∙◌, arith}
use Rattle.std.proofs.lemmas.List.{drop_all}
use Rattle.compose.proofs.WayBack.{drop-here, back-start, next_there, next_whole, next_base, next_out, back-next, back-end}
use Rattle.compose.proofs.undoing.undo.Goals as goal

pub loop-op-init : goal.loop-op-init
loop-op-init c =
    back-start c.args.document.now c.cursor-left.result c.args.delta.now c.ops-ops.result.now c.new-made.result c.cursor-left.ensures c.ops-ops.ensures.ops c.new-made.ensures
    c.requires.there c.requires.whole

pub take_back-requires : goal.take_back-requires
take_back-requires c =
    let ops = c.ops-ops.result.now in
    let i = c.loop-op.op-index in
    let op = c.op-item.result in
    let here = drop-here ops i op c.loop-op-test.true c.op-item.is in
    let so = c.loop-op.invariant in
    let d = c.args.document.now in
    let delta = c.args.delta.now in
    record {
      there = next_there d c.loop-op.left delta (drop i ops) (drop (i + 1) ops) c.loop-op.made op so here;
      whole = next_whole d c.loop-op.left delta (drop i ops) (drop (i + 1) ops) c.loop-op.made op so here;
      base = omega (arith, next_base d c.loop-op.left delta (drop i ops) (drop (i + 1) ops) c.loop-op.made op so here, c.ops-ops.ensures.bounded.out);
      out = omega (arith, next_out d c.loop-op.left delta (drop i ops) (drop (i + 1) ops) c.loop-op.made op so here, c.ops-ops.ensures.bounded.base);
    }

pub loop-op-preserved : goal.loop-op-preserved
loop-op-preserved c =
    let ops = c.ops-ops.result.now in
    let i = c.loop-op.op-index in
    let op = c.op-item.result in
    let here = drop-here ops i op c.loop-op-test.true c.op-item.is in
    back-next c.args.document.now c.loop-op.left c.args.delta.now (drop i ops) (drop (i + 1) ops) c.loop-op.made op c.loop-op.invariant here _ _ c.in_ok-take_back.ensures.back

pub returns : goal.returns
returns c = record {
  one =
      let ops = c.ops-ops.result.now in
      let none = drop_all c.loop-op.op-index ops c.loop-op-test.false in
      c.finish.ensures ∙ back-end c.args.document.now c.loop-op.left c.args.delta.now (drop c.loop-op.op-index ops) c.loop-op.made c.loop-op.invariant none;
}
