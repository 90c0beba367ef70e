use Rattle.std.proofs.Common.{subst}
use Rattle.document.specs.steps.Passes.{IsRetained}
use Rattle.document.specs.Runs.{units_of_runs}
use Rattle.document.proofs.Passing.{kept_run}
use Rattle.document.proofs.walk.keep_changed_next.Goals as goal

pub returns-in-Some-clause-kept : goal.returns-in-Some-clause-kept
returns-in-Some-clause-kept c =
    kept_run _ _ _ _ _ _ _ c.in-Some.ensures.parts c.in-Some.ensures.run.1 c.units.ensures.units c.in_ok-keep_run.ensures.units

pub returns-clause-kept : goal.returns-clause-kept
returns-clause-kept c =
    subst (λ d. IsRetained d c.keep_part.new.cursor c.in_ok-len.len c.args.change.now (units_of_runs c.args.out.now) (units_of_runs c.keep_part.new.out))
    (c.next_run.ensures.none c.in_default.is) c.in_ok-len.ensures.kept
