use Rattle.algebra.specs.Outcomes.{Composing, Transforming, Inverting, Applying}
use Rattle.algebra.specs.Words.{deltas_in}
use Rattle.algebra.specs.Tasks.{ComesTo}
use Rattle.algebra.specs.declared.task.Task.{Task}
use Rattle.algebra.specs.declared.task.Task.TheVariants.{Compose, Transform, Invert, Apply}
use Rattle.algebra.proofs.Outcomes.{IsOne, following-one, composing-one, transforming-one, inverting-one, applying-one}
use Rattle.algebra.proofs.laws.comes_to_one.Goals as goal

comes_to-one : (task : Task) → IsOne (ComesTo task)
comes_to-one (Compose first second) =
    following-one (deltas_in first.now second.now) (λ deltas. Composing deltas.0 deltas.1) (λ deltas. composing-one deltas.0 deltas.1)
comes_to-one (Transform first second priority) =
    following-one (deltas_in first.now second.now) (λ deltas. Transforming deltas.0 deltas.1 priority) (λ deltas. transforming-one deltas.0 deltas.1 priority)
comes_to-one (Invert delta base) =
    following-one (deltas_in delta.now base.now) (λ deltas. Inverting deltas.0 deltas.1) (λ deltas. inverting-one deltas.0 deltas.1)
comes_to-one (Apply document delta) =
    following-one (deltas_in document.now delta.now) (λ deltas. Applying deltas.0 deltas.1) (λ deltas. applying-one deltas.0 deltas.1)

pub returns : goal.returns
returns c = comes_to-one
