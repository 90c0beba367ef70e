use Rattle.std.proofs.Common.{◌≡◌, All, take, sum_by, subst, ap, arith}
use Rattle.std.proofs.lemmas.List.{take_all}
use Rattle.std.proofs.lemmas.List.Elements.{All-more}
use Rattle.revision.specs.Spellable.{IsNewValue, IsPair, IsPairs}
use Rattle.revision.specs.Width.{new_value_width, pair_width}
use Rattle.revision.proofs.Sums.{sum_by-more, length-le-sum_by, pair_width-some}
use Rattle.revision.proofs.rule.widths.change_width.Goals as goal

pub loop-entry-preserved : goal.loop-entry-preserved
loop-entry-preserved c =
    let xs = c.entries-entries.result.now in
    let at = c.loop-entry in
    let x = c.entry-item.result in
    record {
      wide = omega (arith, sum_by-more (pair_width new_value_width) xs at.entry-index x c.loop-entry-test.true, ap (pair_width new_value_width) c.entry-item.is);
      short = λ short.
          All-more (IsPair IsNewValue) xs at.entry-index x c.loop-entry-test.true (at.invariant.short (omega arith)) (subst (IsPair IsNewValue) c.entry-item.is (c.changed_width.ensures.short (omega arith)));
    }

pub returns-clause-short : goal.returns-clause-short
returns-clause-short c = λ short.
    let xs = c.entries-entries.result.now in
    let at = c.loop-entry in
    let all : take at.entry-index xs ≡ xs = take_all _ _ c.loop-entry-test.false in
    subst (IsPairs IsNewValue) c.entries-entries.ensures
    (record {
      count = omega (arith, ap (sum_by (pair_width new_value_width)) all, length-le-sum_by (pair_width new_value_width) (pair_width-some new_value_width) xs, at.invariant.wide);
      each = subst (All (IsPair IsNewValue)) all (at.invariant.short short);
    })
