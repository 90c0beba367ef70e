use Rattle.std.proofs.Common.{◌≡◌, ℕ, List, length, subst, rules}
use Rattle.std.specs.Prelude.{IfOk, IfErr}
use Rattle.revision.specs.State.{State}
use Rattle.refusal.specs.declared.Refusal.TheVariants.{Damaged}
use Rattle.milestone.specs.declared.format.Format.TheVariants.{Two}
use Rattle.recovery.specs.Found.{Found}
use Rattle.recovery.specs.steps.Readings.{IsOfItsShape}
use Rattle.recovery.proofs.reading.read_store.Goals as goal

pub returns-clause-shaped : goal.returns-clause-shaped
returns-clause-shaped g c =
    subst (λ (l : List ℕ). IfOk c.read_content.result (λ recovered. IsOfItsShape Two (length l) recovered)) c.is_synced_as.ensures.seen c.read_content.ensures.shaped

pub returns-clause-refused : goal.returns-clause-refused
returns-clause-refused g c = record {
  not_formatted = search rules;
  old_format = search rules;
  new_format = search rules;
  formatted = search rules;
  damaged =
      subst (λ (l : List ℕ). IfErr c.read_content.result (λ e. e ≡ Damaged → g.D.Disk.honest c.read_content.new.disk → (found : State) → ¬ Found l c.args.pick found)) c.is_synced_as.ensures.seen c.read_content.ensures.refused.damaged;
  only = search rules;
}
