use Rattle.std.proofs.Common.{subst, ◌∙◌}
use Rattle.std.specs.Prelude.{T}
use Rattle.std.specs.FinMap.Entries.{is_sorted}
use Rattle.attributes.specs.Map.{by_bytes}
use Rattle.session.proofs.Kept.{removed_is, sorted_without}
use Rattle.session.proofs.subscriptions.Subscriptions.remove.Goals as goal

pub invariant_of-self : goal.invariant_of-self
invariant_of-self c =
    sorted_without c.args.self.now _ c.args.name.now (subst (λ l. T (is_sorted by_bytes l)) c.self.view_is c.self.invariant)
    (c.remove.ensures.items ∙ removed_is c.args.self.now _ _ c.args.name.now c.in-Ok.i c.self.view_is c.as_str.ensures.text c.in-Ok.ensures)
