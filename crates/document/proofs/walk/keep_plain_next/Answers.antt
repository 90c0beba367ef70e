use Rattle.std.proofs.Common.{subst, arith, ◌∙◌}
use Rattle.document.specs.Chunks.{runs_of_chunks}
use Rattle.document.specs.steps.Passes.{IsRetained}
use Rattle.document.specs.Runs.{units_of_runs}
use Rattle.document.proofs.Joined.{IsWellFormed-runs}
use Rattle.document.proofs.Progress.{kept_plain}
use Rattle.document.proofs.walk.keep_plain_next.Goals as goal

pub returns-then-units-gt0-clause-kept : goal.returns-then-units-gt0-clause-kept
returns-then-units-gt0-clause-kept c =
    let step = c.next_chunks-units.ensures in
    kept_plain _ _ _ _ _ _ _ step.parts (IsWellFormed-runs (runs_of_chunks c.next_chunks-units.result.0.now) step.chunks.1) step.units c.requires.plain c.in_ok-put_chunks.ensures.ok

pub returns-then-units-gt0-2-clause-kept : goal.returns-then-units-gt0-2-clause-kept
returns-then-units-gt0-2-clause-kept c =
    let step = c.next_runs-units.ensures in
    subst (λ d. IsRetained d c.next_runs-units.new.self c.next_runs-units.result.1 c.args.change.now (units_of_runs c.args.out.now) (units_of_runs c.put_runs.new.runs))
    (c.next_chunks-units.ensures.none (omega arith))
    (kept_plain _ _ _ _ _ _ _ step.parts (IsWellFormed-runs c.next_runs-units.result.0.now step.runs) step.units c.requires.plain c.in_ok-put_runs.ensures.ok)

pub returns-clause-kept : goal.returns-clause-kept
returns-clause-kept c =
    subst (λ d. IsRetained d c.keep_part.new.cursor c.in_ok-len.len c.args.change.now (units_of_runs c.args.out.now) (units_of_runs c.keep_part.new.out))
    (c.next_runs-units.ensures.none (omega arith) ∙ c.next_chunks-units.ensures.none (omega arith)) c.in_ok-len.ensures.kept
