use Rattle.std.proofs.Common.{refl, sym, subst}
use Rattle.document.specs.steps.Weighing.{IsRetainedWeighed}
use Rattle.document.proofs.weights.kept_next_weight.Goals as goal

pub returns-then-is_empty-clause-kept : goal.returns-then-is_empty-clause-kept
returns-then-is_empty-clause-kept c =
    let step = c.passed_next_weight in
    subst (λ change. IsRetainedWeighed c.args.cursor.now step.new.cursor step.result.0 change step.result.1) (sym (c.if-is_empty.ensures.0 refl)) step.ensures.passed
