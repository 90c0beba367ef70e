use Rattle.std.proofs.Common.{◌≡◌, Bool, true, false, List, map, sym, ap, ap₂, ◌∙◌, subst, take, arith}
use Rattle.std.specs.Prelude.{if◌then◌else◌}
use Rattle.revision.specs.Floors.{raised_each}
use Rattle.revision.specs.Pending.{record_of}
use Rattle.revision.specs.State.{DocumentRecord, State, all_grow, fold}
use Rattle.world.specs.Progress.{reopened}
use Rattle.world.specs.World.{World, takens}
use Rattle.world.specs.Step.{may_leave, can_open, opened}
use Rattle.world.specs.Stepping.{empty_store, AreStepped, world_of, recovered, floors_left, are_reached}
use Rattle.world.proofs.Steps.{left_grow, left-taken, stepped-opened, open-steps, closed-steps}
use Rattle.world.proofs.stepping.World.open.Goals as goal
use Rattle.world.proofs.stepping.World.open.Goals.{After-are_reached}

pub folded-requires : goal.folded-requires
folded-requires c = record {
  grow = ap (λ o. all_grow (empty_store c.self.inside.limits) (takens o)) (c.first.ensures ∙ ap (λ (w : World). take c.args.kept w.board.order) (sym c.self.view_is))
      ∙ left_grow c.self.inside.limits c.args.kept c.self.inside.board.order c.self.invariant.grow;
}

may : (c : After-are_reached) → may_leave (world_of c.self.inside) c.args.kept ≡ true
may c = ap (λ (w : World). may_leave w c.args.kept) c.self.view_is ∙ (sym c.may_leave.ensures ∙ c.if-not-may_leave.false)

made_is : (c : After-are_reached) → c.in_ok-made.made ≡ fold (empty_store c.self.inside.limits) (takens (take c.args.kept c.self.inside.board.order))
made_is c = c.in_ok-made.ensures.state
    ∙ ap (λ o. fold (empty_store c.self.inside.limits) (takens o)) (c.first.ensures ∙ ap (λ (w : World). take c.args.kept w.board.order) (sym c.self.view_is))

state_is : (c : After-are_reached) → c.in_ok-state.state ≡ recovered (empty_store c.self.inside.limits) (takens (take c.args.kept c.self.inside.board.order)) c.args.milestones.now
state_is c = c.in_ok-state.ensures.same ∙ ap (λ (s : State). record s { documents = raised_each c.args.milestones.now s.documents }) (made_is c)

-- what the test of the floors says
reached : (c : After-are_reached) (answer : Bool) → c.are_reached.result ≡ answer
    → are_reached c.self.inside.composed.items 0 (fold (empty_store c.self.inside.limits) (takens (take c.args.kept c.self.inside.board.order))).documents c.in_ok-state.state.documents ≡ answer
reached c answer is =
    ap (λ (s : State). are_reached c.self.inside.composed.items 0 s.documents c.in_ok-state.state.documents) (sym (made_is c))
    ∙ (ap₂ (λ (m h : List DocumentRecord). are_reached c.self.inside.composed.items 0 m h) (sym c.documents.ensures.documents) (sym c.documents-2.ensures.documents)
    ∙ (ap (λ l. are_reached l 0 (map record_of c.documents.result.now) (map record_of c.documents-2.result.now)) (sym c.as_slice.ensures.value) ∙ (sym c.are_reached.ensures ∙ is)))

pub returns-then-not-are_reached-clause-ok : goal.returns-then-not-are_reached-clause-ok
returns-then-not-are_reached-clause-ok c =
    let all = (goal.at.returns-then-not-are_reached-clause-ok c).After-are_reached in
    sym c.self.view_is
    ∙ (closed-steps (world_of c.self.inside) c.self.inside.limits c.args.kept c.args.milestones.now c.in_ok-state.state c.self.invariant.start
    (omega (arith, c.facts.ensures.limits.keep)) (may all) (state_is all) (reached all false c.if-not-are_reached.true)
    ∙ ap (λ (w : World). if can_open w c.args.kept (floors_left w c.args.kept c.args.milestones.now) then opened w c.args.kept (floors_left w c.args.kept c.args.milestones.now) else w) c.self.view_is)

pub invariant_of-self : goal.invariant_of-self
invariant_of-self c =
    let all = (goal.at.invariant_of-self c).After-are_reached in
    subst (λ b. AreStepped c.self.inside.limits b c.truncate.new.self.items c.args.kept c.args.kept c.args.kept) (sym c.reopen.ensures)
    (subst (λ o. AreStepped c.self.inside.limits (reopened c.self.inside.board c.in_ok-state.state c.args.kept) o c.args.kept c.args.kept c.args.kept) (sym c.truncate.ensures.items)
    (stepped-opened c.self.inside.limits c.self.inside.board c.self.inside.order.items c.self.inside.published c.self.inside.without c.self.inside.with_batch c.in_ok-state.state c.args.kept c.args.milestones.now
    c.self.invariant (left-taken c.self.inside.limits (world_of c.self.inside) c.self.inside.order.items c.self.inside.published c.args.kept c.self.invariant (may all)) (state_is all)))

pub returns-clause-ok : goal.returns-clause-ok
returns-clause-ok c =
    let all = (goal.at.returns-clause-ok c).After-are_reached in
    (λ i. record (world_of c.self.inside) {
      board = c.reopen.ensures i;
      published = takens (take c.args.kept (c.reopen.ensures i).order);
      without = c.args.kept;
      with_batch = c.args.kept;
      tickets = c.clear.ensures.items i;
      failed = false;
      crashed = false;
    })
    ∙ (open-steps (world_of c.self.inside) c.self.inside.limits c.args.kept c.args.milestones.now c.in_ok-state.state c.self.invariant.start
    (omega (arith, c.facts.ensures.limits.keep)) (may all) (state_is all) (reached all true c.if-not-are_reached.false)
    ∙ ap (λ (w : World). if can_open w c.args.kept (floors_left w c.args.kept c.args.milestones.now) then opened w c.args.kept (floors_left w c.args.kept c.args.milestones.now) else w) c.self.view_is)
