use Rattle.std.proofs.Common.{◌≤◌, inl, List, length, drop, sym, ◌∙◌, ap, subst}
use Rattle.milestone.specs.Job.{Job}
use Rattle.flusher.specs.Holding.{store_of}
use Rattle.turns.specs.Exchanging.{ArePutFirst}
use Rattle.turns.proofs.Writing.{upkeep_done}
use Rattle.turns.proofs.exchange.Exchange.put_first.Goals as goal

pub returns-in-Ok-clause-upkeep : goal.returns-in-Ok-clause-upkeep
returns-in-Ok-clause-upkeep g c =
    let e = c.put_milestones.ensures in
    upkeep_done c.in-Ok.count _ c.args.flusher.now c.put_milestones.new.self e.keeps
    c.in-Ok.ensures.faults.fails

-- a prefix is put
pub drop_first-requires : goal.drop_first-requires
drop_first-requires g c = subst (λ (l : List Job). c.in-Ok.count ≤ length l) c.deref-2.ensures.value c.in-Ok.ensures.count.0

pub returns-in-Ok-clause-kept : goal.returns-in-Ok-clause-kept
returns-in-Ok-clause-kept g c =
    subst (λ (l : List Job). ArePutFirst l c.drop_first.new.unput.items (store_of c.args.flusher.now) (store_of c.put_milestones.new.self)) c.deref-2.ensures.value
    (inl (
      c.in-Ok.count,
      c.in-Ok.ensures.count.0,
      c.in-Ok.ensures.count.1,
      c.drop_first.ensures.items ∙ ap (λ (l : List Job). drop c.in-Ok.count l) (sym c.deref-2.ensures.value),
      c.in-Ok.ensures.put,
    ))
