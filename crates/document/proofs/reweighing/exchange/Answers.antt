use Rattle.std.proofs.Common.{subst}
use Rattle.attributes.specs.Map.{empty}
use Rattle.document.specs.steps.Weighing.{IsRetainedWeighed}
use Rattle.document.proofs.Exchanged.{exchanged_kept, exchanged_made}
use Rattle.document.proofs.reweighing.exchange.Goals as goal

pub returns-in-Ok : goal.returns-in-Ok
returns-in-Ok c = exchanged_kept _ _ _ _ c.in-Some.ensures c.in-Ok.ensures.passed

pub returns : goal.returns
returns c =
    exchanged_made _ _ _ _ _ _ _ c.requires.bound c.base_len.ensures
    (subst (λ d. IsRetainedWeighed d c.passed_weight-goes.new.cursor c.base_len.result empty c.passed_weight-goes.result) c.again-before.ensures c.passed_weight-goes.ensures)
    c.made_weight.ensures
