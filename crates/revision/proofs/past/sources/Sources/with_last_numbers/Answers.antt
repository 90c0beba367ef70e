use Rattle.std.proofs.Common.{◌∙◌, ap, length, map, arith}
use Rattle.attributes.specs.Map.{entries_of}
use Rattle.revision.specs.Sources.{cut}
use Rattle.revision.proofs.Cutting.{ascending-cut}
use Rattle.revision.proofs.Counted.{keeps-cut}
use Rattle.revision.proofs.past.sources.Sources.with_last_numbers.Goals as goal

pub invariant_of-result : goal.invariant_of-result
invariant_of-result c =
    let is = c.in_ok-last_numbers_of.ensures.cut ∙ ap (map cut) c.entries.ensures.entries in
    (ascending-cut c.args.self.now.entries c.in_ok-last_numbers_of.field-0.items is c.args.self.now.ascending, tt)

pub invariant_of-result-2 : goal.invariant_of-result-2
invariant_of-result-2 c =
    let is = c.in_ok-last_numbers_of.ensures.cut ∙ ap (map cut) c.entries.ensures.entries in
    keeps-cut _ c.args.self.now.entries _ c.entries.ensures.named is (omega (arith, c.len.ensures, ap length (ap entries_of c.self.view_is)))
