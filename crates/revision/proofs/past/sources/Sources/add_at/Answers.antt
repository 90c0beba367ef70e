use Rattle.std.proofs.Common.{◌<◌, ◌^◌, ◌+◌, length, cond, refl, sym, ap, ap₂, subst, ◌∙◌, arith}
use Rattle.std.specs.Result.{is_ok}
use Rattle.attributes.specs.Map.{entries_of, insert, same_entries_map}
use Rattle.attributes.proofs.CallerLemmas.{inserted, ascending_as, ascending_if}
use Rattle.revision.specs.steps.Counting.{Keeps}
use Rattle.revision.proofs.Counted.{keeps-most, keeps-added}
use Rattle.revision.proofs.Outcomes.{OnErr-always}
use Rattle.revision.proofs.past.sources.Sources.add_at.Goals as goal

pub invariant_of-self-inside : goal.invariant_of-self-inside
invariant_of-self-inside c =
    let list = ap entries_of c.self.view_is in
    let more = inserted c.args.self.now _ _ c.args.source c.args.place list refl c.requires.free c.args.window in (
      ascending_if c.args.self.now (insert c.args.self.now c.args.source c.args.window) (is_ok c.insert.result) _
          (c.insert.ensures.items ∙ ap₂ (cond (is_ok c.insert.result)) more list),
      tt,
    )

pub returns-clause-ok : goal.returns-clause-ok
returns-clause-ok c =
    same_entries_map _ _
    (c.in_ok-insert.ensures.items ∙ inserted c.args.self.now _ _ c.args.source c.args.place (ap entries_of c.self.view_is) refl c.requires.free _)

pub returns-in_err-insert-clause-unchanged : goal.returns-in_err-insert-clause-unchanged
returns-in_err-insert-clause-unchanged c =
    OnErr-always c.from_residual.result (same_entries_map _ _ c.in_err-insert.ensures.items ∙ c.self.view_is)

pub overflow_add-self : goal.overflow_add-self
overflow_add-self c =
    let few : length c.self.inside.list.items < 2 ^ 64 = omega arith in
    omega (arith, keeps-most c.self.inside.numbers _ c.self.invariant, few, c.count-count.ensures.longest)

pub invariant_of-self : goal.invariant_of-self
invariant_of-self c = subst (Keeps c.self.inside.numbers) (sym c.in_err-insert.ensures.items) c.self.invariant

pub invariant_of-self-2 : goal.invariant_of-self-2
invariant_of-self-2 c =
    let list = ap entries_of c.self.view_is in
    let more = inserted c.args.self.now _ _ c.args.source c.args.place list refl c.requires.free c.args.window in
    subst (λ n. Keeps (c.self.inside.numbers + n) c.insert.new.self.items) (sym c.count-count.ensures.count)
    (keeps-added c.self.inside.numbers c.args.self.now c.args.source c.args.window _ (subst (Keeps c.self.inside.numbers) list c.self.invariant)
    c.requires.named c.requires.free.not_found (omega (arith, c.count-count.ensures.count, c.count-count.ensures.longest)) (c.in_ok-insert.ensures.items ∙ more))

pub invariant_of-self-inside-2 : goal.invariant_of-self-inside-2
invariant_of-self-inside-2 c =
    let more = inserted c.args.self.now _ _ c.args.source c.args.place (ap entries_of c.self.view_is) refl c.requires.free c.args.window in
    (ascending_as (insert c.args.self.now c.args.source c.args.window) _ (c.in_ok-insert.ensures.items ∙ more), tt)
