use Rattle.std.proofs.Common.{sym, ap, subst, length, arith, ◌∙◌}
use Rattle.std.proofs.lemmas.List.{length-drop}
use Rattle.document.specs.Runs.{AreRuns, units_of_runs}
use Rattle.document.proofs.Chunked.{AreRuns-split}
use Rattle.document.proofs.Entering.{none_begun, none_passed, runs_passed}
use Rattle.document.proofs.cursor.Cursor.next_runs.Goals as goal

pub invariant_of-self : goal.invariant_of-self
invariant_of-self c = (
  c.self.invariant.0,
  subst AreRuns (sym c.split_at.ensures.back) (AreRuns-split c.whole_runs-count.result.0 c.entered.result.0.now c.entered.ensures.runs).1,
  omega (arith, ap length c.split_at.ensures.back, length-drop c.whole_runs-count.result.0 c.entered.result.0.now, c.entered.ensures.few),
  c.entered.ensures.chunks,
)

pub returns-clause-parts : goal.returns-clause-parts
returns-clause-parts c =
    runs_passed _ c.self.inside.runs.now c.entered.result.0.now c.split_at.result.0.now c.split_at.result.1.now c.self.inside.chunks.now c.entered.result.1.now c.whole_runs-count.result.0
    (none_begun c.self.inside.begun (sym c.is_some.ensures ∙ c.if-is_some.false)) c.split_at.ensures.front c.split_at.ensures.back c.entered.ensures.same
    ∙ c.self.view_is

pub returns-clause-runs : goal.returns-clause-runs
returns-clause-runs c = subst AreRuns (sym c.split_at.ensures.front) (AreRuns-split c.whole_runs-count.result.0 c.entered.result.0.now c.entered.ensures.runs).0

pub returns-clause-none : goal.returns-clause-none
returns-clause-none c =
    none_passed (units_of_runs c.split_at.result.0.now) _ c.args.self.now c.whole_runs-count.result.1
    (runs_passed _ c.self.inside.runs.now c.entered.result.0.now c.split_at.result.0.now c.split_at.result.1.now c.self.inside.chunks.now c.entered.result.1.now c.whole_runs-count.result.0
    (none_begun c.self.inside.begun (sym c.is_some.ensures ∙ c.if-is_some.false)) c.split_at.ensures.front c.split_at.ensures.back c.entered.ensures.same
    ∙ c.self.view_is)
    (c.whole_runs-count.ensures.units ∙ ap (λ l. length (units_of_runs l)) (sym c.split_at.ensures.front))
