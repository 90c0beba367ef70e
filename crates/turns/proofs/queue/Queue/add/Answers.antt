use Rattle.std.proofs.Common.{◌≡◌, ◌<◌, false, get_or, length, sym, ◌∙◌, ap, subst, arith, rules, List, ℕ}
use Rattle.std.proofs.lemmas.List.{get_or_default}
use Rattle.std.specs.Prelude.{Contains}
use Rattle.std.specs.VecDeque.{deque_capacity}
use Rattle.turns.specs.Waiting.{Waiting}
use Rattle.turns.proofs.Marks.{place_free, marked_more}
use Rattle.turns.proofs.queue.Queue.add.Goals.{else-place-len-via-then-place-len+else-not-index, else-place-len-via-else-place-len}
use Rattle.turns.proofs.queue.Queue.add.Goals as goal

-- there is a place for a number that isn't marked
pub unwrap-requires : goal.unwrap-requires
unwrap-requires c =
    let inside : c.args.document < length c.self.inside.is_in.items = search rules in
    let unset : get_or c.self.inside.is_in.items c.args.document false ≡ false = search rules in
    c.push_back.ensures.succeeds (omega (arith, place_free _ _ _ c.args.document inside unset c.self.invariant))

pub invariant_of-self : goal.invariant_of-self
invariant_of-self c =
    let inside : c.args.document < length c.self.inside.is_in.items = search rules in
    let unset : get_or c.self.inside.is_in.items c.args.document false ≡ false = search rules in
    marked_more (deque_capacity c.self.inside.numbers) c.self.inside.is_in.items c.self.inside.numbers.items c.args.document inside
    (deque_capacity c.push_back.new.self) c.push_back.new.self.items unset c.push_back.ensures.capacity (search rules) c.self.invariant

-- one that is marked waits
pub returns-else-place-len-clause-waits : goal.returns-else-place-len-clause-waits
returns-else-place-len-clause-waits c below =
    let there : c.args.document < length c.self.inside.is_in.items = omega (arith, below, ap (λ (q : Waiting). q.room) c.self.view_is) in
    subst (λ (l : List ℕ). Contains l c.args.document) (ap (λ (q : Waiting). q.numbers) c.self.view_is) (elim c.else-place-len.branch [
      | else-place-len-via-then-place-len+else-not-index w ↦
          c.self.invariant.wait c.args.document (get_or_default c.self.inside.is_in.items c.args.document false w.index.result.now there ∙ sym w.index.ensures ∙ w.if-not-index.false)
      | else-place-len-via-else-place-len w ↦ absurd (omega (arith, there, w.if-place-len.false, c.len.ensures))
    ])
