use Rattle.std.proofs.Common.{cond, ap₂, subst, ◌∙◌}
use Rattle.std.specs.Prelude.{T}
use Rattle.std.specs.Result.{is_ok}
use Rattle.std.specs.FinMap.Entries.{is_sorted}
use Rattle.attributes.specs.Map.{by_bytes}
use Rattle.session.proofs.Kept.{set_is, inserted_is, sorted_with, sorted_if}
use Rattle.session.proofs.subscriptions.Subscriptions.set.Goals as goal

pub invariant_of-self : goal.invariant_of-self
invariant_of-self c =
    sorted_with c.args.self.now _ c.args.name c.args.revision (subst (λ l. T (is_sorted by_bytes l)) c.self.view_is c.self.invariant)
    (set_is c.args.self.now _ _ c.args.name c.in-Ok.i c.self.view_is c.as_str.ensures.text c.in-Ok.ensures _ c.args.revision c.index_mut.ensures.value)

pub returns-in-Ok-clause-ok : goal.returns-in-Ok-clause-ok
returns-in-Ok-clause-ok c =
    set_is c.args.self.now _ _ c.args.name c.in-Ok.i c.self.view_is c.as_str.ensures.text c.in-Ok.ensures _ c.args.revision c.index_mut.ensures.value

pub invariant_of-self-in-Err : goal.invariant_of-self-in-Err
invariant_of-self-in-Err c =
    let done = is_ok c.insert.result in
    sorted_if c.args.self.now _ c.args.name c.args.revision done (subst (λ l. T (is_sorted by_bytes l)) c.self.view_is c.self.invariant)
    (c.insert.ensures.items
    ∙ ap₂ (cond done) (inserted_is c.args.self.now _ _ c.args.name c.in-Err.i c.self.view_is c.as_str.ensures.text c.in-Err.ensures c.args.revision) c.self.view_is)

pub returns-in_ok-insert-in-Err-clause-ok : goal.returns-in_ok-insert-in-Err-clause-ok
returns-in_ok-insert-in-Err-clause-ok c =
    c.in_ok-insert-in-Err.ensures.items
    ∙ inserted_is c.args.self.now _ _ c.args.name c.in-Err.i c.self.view_is c.as_str.ensures.text c.in-Err.ensures c.args.revision
