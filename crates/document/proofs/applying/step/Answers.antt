use Rattle.std.proofs.Common.{ap, sym, ◌∙◌}
use Rattle.delta.specs.Kind.{operation_of}
use Rattle.document.proofs.Progress.{done_retain, done_delete}
use Rattle.document.proofs.applying.step.Goals as goal

pub returns-in_ok-keep-in-Retain-clause-done : goal.returns-in_ok-keep-in-Retain-clause-done
returns-in_ok-keep-in-Retain-clause-done c =
    done_retain _ _ _ _ _ _ _ (ap operation_of (sym c.in-Retain.is) ∙ c.get.ensures) c.in_ok-keep-in-Retain.ensures.kept

pub returns-in-Ok-clause-done : goal.returns-in-Ok-clause-done
returns-in-Ok-clause-done c =
    done_delete _ _ _ _ _ (ap operation_of (sym c.in-Delete.is) ∙ c.get.ensures) c.in-Ok.ensures.passed
