use Rattle.std.proofs.Common.{cond, ap, ap₂, ◌∙◌}
use Rattle.std.specs.Result.{is_ok}
use Rattle.attributes.specs.Map.{entries_of, insert, same_entries_map}
use Rattle.attributes.proofs.Outcomes.{OnErr-always}
use Rattle.attributes.proofs.Places.{written, inserted, ascending_as, ascending_if}
use Rattle.attributes.proofs.map.Map.set.Goals as goal

pub invariant_of-self-inside : goal.invariant_of-self-inside
invariant_of-self-inside g c = (
  ascending_as (insert c.args.self.now c.args.key c.args.value) _
      (written c.args.self.now _ _ _ c.in-Ok.i (ap entries_of c.self.view_is) c.as_str.ensures.text c.in-Ok.ensures _ c.args.value c.index_mut.ensures.value),
  tt,
)

pub returns-in-Ok-clause-ok : goal.returns-in-Ok-clause-ok
returns-in-Ok-clause-ok g c =
    same_entries_map _ _
    (written c.args.self.now _ _ _ c.in-Ok.i (ap entries_of c.self.view_is) c.as_str.ensures.text c.in-Ok.ensures _ c.args.value c.index_mut.ensures.value)

pub invariant_of-self-inside-in-Err : goal.invariant_of-self-inside-in-Err
invariant_of-self-inside-in-Err g c =
    let list = ap entries_of c.self.view_is in
    let more = inserted c.args.self.now _ _ c.args.key c.in-Err.i list c.as_str.ensures.text c.in-Err.ensures c.args.value in (
      ascending_if c.args.self.now (insert c.args.self.now c.args.key c.args.value) (is_ok c.insert_at.result) _
          (c.insert_at.ensures.items ∙ ap₂ (cond (is_ok c.insert_at.result)) more list),
      tt,
    )

pub returns-in_ok-insert_at-in-Err-clause-ok : goal.returns-in_ok-insert_at-in-Err-clause-ok
returns-in_ok-insert_at-in-Err-clause-ok g c =
    same_entries_map _ _
    (c.in_ok-insert_at-in-Err.ensures.items
    ∙ inserted c.args.self.now _ _ c.args.key c.in-Err.i (ap entries_of c.self.view_is) c.as_str.ensures.text c.in-Err.ensures c.args.value)

pub returns-in_err-insert_at-in-Err-clause-err : goal.returns-in_err-insert_at-in-Err-clause-err
returns-in_err-insert_at-in-Err-clause-err g c =
    OnErr-always c.from_residual.result (same_entries_map _ _ c.in_err-insert_at-in-Err.ensures.items ∙ c.self.view_is)
