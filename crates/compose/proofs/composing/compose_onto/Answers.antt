use Rattle.std.proofs.Common.{◌≡◌, List, ◌∷◌, subst}
use Rattle.std.specs.Vec.Iter.{into_iter_items}
use Rattle.delta.specs.Operation.{Operation}
use Rattle.delta.specs.Normal.{IsNormal}
use Rattle.delta.specs.Cursor.{operations_left}
use Rattle.compose.specs.Outcome.{IsComposeRefused}
use Rattle.compose.specs.steps.PartlyComposed.{IsPartlyComposed}
use Rattle.std.proofs.lemmas.Result.{err_from_is_err_and}
use Rattle.compose.proofs.Outcomes.{handed_on}
use Rattle.compose.proofs.Meetings.{some-first}
use Rattle.compose.proofs.composing.compose_onto.Goals as goal

pub lay_over-requires-clause-first : goal.lay_over-requires-clause-first
lay_over-requires-clause-first c =
    let is : ◌≡◌ {A = List Operation} (into_iter_items c.loop-op.op-iterator) (c.in-Some.op ∷ into_iter_items c.next.new.self) = c.in-Some.ensures.steps.0 in
    some-first c.in-Some.op (into_iter_items c.next.new.self) (subst IsNormal is c.loop-op.invariant.before_normal)

pub returns-in_err-rest-clause-only : goal.returns-in_err-rest-clause-only
returns-in_err-rest-clause-only c =
    let is : ◌≡◌ {A = List Operation} (into_iter_items c.loop-op.op-iterator) (c.in-Some.op ∷ into_iter_items c.next.new.self) = c.in-Some.ensures.steps.0 in
    let p = err_from_is_err_and c.from_residual-in_err-rest.result c.from_residual-in_err-rest.ensures.1 in
    handed_on (IsComposeRefused c.args.first c.args.second.now) c.from_residual-in_err-rest.result p.0 c.in_err-rest.field-0.0 p.1 p.2
    (c.in_err-rest.ensures.refused c.args.first c.args.second.now (into_iter_items c.next.new.self)
    (subst (λ (l : List Operation). IsPartlyComposed c.args.first c.args.second.now c.loop-op.out l (operations_left c.loop-op.rest)) is c.loop-op.invariant))

pub loop-op-preserved : goal.loop-op-preserved
loop-op-preserved c =
    let is : ◌≡◌ {A = List Operation} (into_iter_items c.loop-op.op-iterator) (c.in-Some.op ∷ into_iter_items c.next.new.self) = c.in-Some.ensures.steps.0 in
    c.in_ok-rest.ensures.on c.args.first c.args.second.now (into_iter_items c.next.new.self)
    (subst (λ (l : List Operation). IsPartlyComposed c.args.first c.args.second.now c.loop-op.out l (operations_left c.loop-op.rest)) is c.loop-op.invariant)
