use Rattle.std.proofs.Common.{◌≡◌, ◌∙◌, ◌<◌, ◌^◌, All, length, take, sum_by, subst, ap, arith}
use Rattle.std.proofs.lemmas.List.{take_all}
use Rattle.std.proofs.lemmas.List.Elements.{All-more}
use Rattle.revision.specs.Spellable.{IsOperation}
use Rattle.revision.specs.Width.{operation_width}
use Rattle.revision.proofs.Sums.{sum_by-more, length-le-sum_by, operation_width-some}
use Rattle.revision.proofs.rule.widths.delta_width.Goals as goal

pub loop-op-preserved : goal.loop-op-preserved
loop-op-preserved c =
    let xs = c.ops-ops.result.now in
    let at = c.loop-op in
    let x = c.op-item.result in
    record {
      wide = omega (arith, sum_by-more operation_width xs at.op-index x c.loop-op-test.true, ap operation_width c.op-item.is);
      short = λ short.
          All-more IsOperation xs at.op-index x c.loop-op-test.true (at.invariant.short (omega arith)) (subst IsOperation c.op-item.is (c.operation_width.ensures.short (omega arith)));
    }

pub returns-clause-short : goal.returns-clause-short
returns-clause-short c = λ short.
    let xs = c.ops-ops.result.now in
    let at = c.loop-op in
    let all : take at.op-index xs ≡ xs = take_all _ _ c.loop-op-test.false in
    record {
      normal = c.ops-ops.ensures.normal;
      bounded = c.ops-ops.ensures.bounded;
      count = subst (λ ops. length ops < 2 ^ 32) c.ops-ops.ensures.ops (omega (arith, ap (sum_by operation_width) all, length-le-sum_by operation_width operation_width-some xs, at.invariant.wide));
      each = subst (All IsOperation) (all ∙ c.ops-ops.ensures.ops) (at.invariant.short short);
    }
