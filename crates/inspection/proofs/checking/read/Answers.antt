use Rattle.std.proofs.Common.{◌∙◌, sym, subst, rules}
use Rattle.recovery.specs.Opened.{IsReadDevice}
use Rattle.inspection.proofs.Memory.{memory_alone}
use Rattle.inspection.proofs.checking.read.Goals as goal

pub returns-in-Ok-copy-clause-only_state : goal.returns-in-Ok-copy-clause-only_state
returns-in-Ok-copy-clause-only_state g c =
    λ honest state found. c.in-Ok.ensures.opened.only_state (subst (λ d. g.D.Disk.honest d) c.close.ensures honest) state found
    ∙ sym (c.in-Ok-copy.ensures.same ∙ c.state.ensures)

pub returns-in-Ok-copy-clause-device : goal.returns-in-Ok-copy-clause-device
returns-in-Ok-copy-clause-device g c = subst (IsReadDevice g.D.Disk c.args.disk) (sym c.close.ensures) c.in-Ok.ensures.device

pub returns-in-Err-copy-clause-refused : goal.returns-in-Err-copy-clause-refused
returns-in-Err-copy-clause-refused g c = memory_alone g.D.Disk c.args.pick _ c.args.disk _ (search rules) (search rules)
