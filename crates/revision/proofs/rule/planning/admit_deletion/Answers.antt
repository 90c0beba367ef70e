use Rattle.std.proofs.Common.{arith}
use Rattle.revision.proofs.Admitting.{deletion_too_heavy, deletion_too_wide, deletion_admitted}
use Rattle.revision.proofs.rule.planning.admit_deletion.Goals as goal

pub returns-then-weight_after-from-clause-err : goal.returns-then-weight_after-from-clause-err
returns-then-weight_after-from-clause-err c = λ units asked is.
    deletion_too_heavy c.args.limits units c.args.sources.now asked c.args.source.now is c.weight_after.result c.weight_after.ensures
    (omega (arith, c.if-weight_after-from.true, c.from.ensures, c.weight.ensures))

pub returns-then-deletion_width-from-clause-err : goal.returns-then-deletion_width-from-clause-err
returns-then-deletion_width-from-clause-err c = λ units asked is.
    deletion_too_wide c.args.limits units c.args.sources.now asked c.args.source.now is c.weight_after.result c.weight_after.ensures
    (omega (arith, c.weight.ensures, c.weight.type_inv)) (omega (arith, c.if-weight_after-from.false, c.from.ensures, c.weight.ensures))
    c.deletion_width.result c.deletion_width.ensures (omega (arith, c.if-deletion_width-from.true, c.from-2.ensures, c.width.ensures))

pub returns-clause-ok : goal.returns-clause-ok
returns-clause-ok c = λ units asked is.
    deletion_admitted c.args.limits units c.args.sources.now asked c.args.source.now is c.weight_after.result c.weight_after.ensures
    (omega (arith, c.weight.ensures, c.weight.type_inv)) (omega (arith, c.if-weight_after-from.false, c.from.ensures, c.weight.ensures))
    c.deletion_width.result c.deletion_width.ensures (omega (arith, c.if-deletion_width-from.false, c.from-2.ensures, c.width.ensures))
    (omega (arith, c.width.ensures, c.width.type_inv))
