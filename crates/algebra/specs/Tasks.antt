-- What a command comes to.
use Rattle.std.specs.Prelude.{◌≡◌, ◌++◌, ◌∷◌, [], ℕ, List, Ok}
use Rattle.delta.specs.Operation.{Operation}
use Rattle.algebra.specs.Text.{text_of}
use Rattle.algebra.specs.Words.{deltas_in}
use Rattle.algebra.specs.Outcomes.{Outcome, Following, Composing, Transforming, Inverting, Applying}
use Rattle.algebra.specs.declared.task.Task.{Task}
use Rattle.algebra.specs.declared.task.Task.TheVariants.{Compose, Transform, Invert, Apply}

-- the faults of the words come first, then what becomes of the deltas that they describe
abbrev pub ComesTo : Task → Outcome → Type 0
ComesTo (Compose first second) outcome =
    Following (deltas_in first.now second.now) (λ deltas. Composing deltas.0 deltas.1) outcome
ComesTo (Transform first second priority) outcome =
    Following (deltas_in first.now second.now) (λ deltas. Transforming deltas.0 deltas.1 priority) outcome
ComesTo (Invert delta base) outcome =
    Following (deltas_in delta.now base.now) (λ deltas. Inverting deltas.0 deltas.1) outcome
ComesTo (Apply document delta) outcome =
    Following (deltas_in document.now delta.now) (λ deltas. Applying deltas.0 deltas.1) outcome

-- a text prints the delta that a command comes to
abbrev pub PrintsOutcome : Task → List ℕ → Type 0
PrintsOutcome task text = (made : List Operation) × ComesTo task (Ok made) × (text ≡ text_of made)

-- and this line does, with its end
abbrev pub PrintsLine : Task → List ℕ → Type 0
PrintsLine task line = (made : List Operation) × ComesTo task (Ok made) × (line ≡ text_of made ++ 10 ∷ [])
