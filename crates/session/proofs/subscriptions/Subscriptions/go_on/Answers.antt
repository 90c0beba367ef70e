use Rattle.std.proofs.Common.{ap, subst, ◌∙◌}
use Rattle.std.specs.Prelude.{T}
use Rattle.std.specs.FinMap.Entries.{is_sorted}
use Rattle.attributes.specs.Map.{by_bytes}
use Rattle.session.specs.News.{going_on}
use Rattle.session.proofs.Kept.{sorted_on}
use Rattle.session.proofs.subscriptions.Subscriptions.go_on.Goals as goal

pub invariant_of-self : goal.invariant_of-self
invariant_of-self c =
    sorted_on c.args.self.now _ c.args.last.now (subst (λ l. T (is_sorted by_bytes l)) c.self.view_is c.self.invariant)
    (c.keep_last.ensures ∙ ap (λ l. going_on l c.args.last.now) c.self.view_is)
