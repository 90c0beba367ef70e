use Rattle.std.proofs.Common.{refl, sym, ap, subst, ◌∙◌}
use mathlib.Core.List.{IsPrefix}
use Rattle.hub.specs.Found.{all_found}
use Rattle.hub.proofs.found.Found.begins.Goals as goal

-- nothing begins each order
pub returns-in_default-clause-begins : goal.returns-in_default-clause-begins
returns-in_default-clause-begins g c =
    subst (λ l. IsPrefix l c.args.order.now) (sym (ap all_found c.in_default.is) ∙ c.self.view_is) (c.args.order.now, refl)
