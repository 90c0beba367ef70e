use Rattle.std.proofs.Common.{◌∙◌, [], sym, subst}
use Rattle.std.proofs.lemmas.Result.{err_from_is_err_and}
use Rattle.refusal.specs.declared.Refusal.TheVariants.{BadOps}
use Rattle.compose.specs.Composes.{Composes}
use Rattle.compose.specs.Outcome.{IsComposeRefused}
use Rattle.delta.specs.Cursor.{operations_left}
use Rattle.compose.proofs.Compositions.{composes_by_normal}
use Rattle.compose.proofs.LaidOver.{laid-none, none_empty-same}
use Rattle.compose.proofs.ManyDeltas.{long-two}
use Rattle.compose.proofs.Outcomes.{map_ok, handed_on, refused_so}
use Rattle.compose.proofs.composing.compose.Goals as goal

pub lay-requires-clause-first : goal.lay-requires-clause-first
lay-requires-clause-first c = none_empty-same c.args.first.now (operations_left c.new.result) (c.new.ensures ∙ c.ops.ensures.ops) c.ops.ensures.normal

pub returns-in_err-rest-clause-only : goal.returns-in_err-rest-clause-only
returns-in_err-rest-clause-only c =
    let p = err_from_is_err_and c.from_residual.result c.from_residual.ensures.1 in
    handed_on (IsComposeRefused c.args.first.now c.args.second.now) c.from_residual.result p.0 c.in_err-rest.field-0.0 p.1 p.2
    (c.in_err-rest.ensures.refused c.args.first.now c.args.second.now []
    (laid-none c.new-out.result c.args.first.now c.args.second.now (operations_left c.new.result) (operations_left c.new-2.result) c.new-out.ensures
    (c.new.ensures ∙ c.ops.ensures.ops) (c.new-2.ensures ∙ c.ops-2.ensures.ops) c.ops.ensures.normal c.ops-2.ensures.normal c.ops.ensures.bounded c.ops-2.ensures.bounded))

pub returns-in_err-rest-clause-long : goal.returns-in_err-rest-clause-long
returns-in_err-rest-clause-long c =
    λ bad.
    let p = err_from_is_err_and c.from_residual.result c.from_residual.ensures.1 in
    let refused = handed_on (IsComposeRefused c.args.first.now c.args.second.now) c.from_residual.result p.0 c.in_err-rest.field-0.0 p.1 p.2
    (c.in_err-rest.ensures.refused c.args.first.now c.args.second.now []
    (laid-none c.new-out.result c.args.first.now c.args.second.now (operations_left c.new.result) (operations_left c.new-2.result) c.new-out.ensures
    (c.new.ensures ∙ c.ops.ensures.ops) (c.new-2.ensures ∙ c.ops-2.ensures.ops) c.ops.ensures.normal c.ops-2.ensures.normal c.ops.ensures.bounded c.ops-2.ensures.bounded)) in
    let so = refused_so (IsComposeRefused c.args.first.now c.args.second.now) c.from_residual.result BadOps bad refused in
    long-two c.args.first.now c.args.second.now so.1

pub returns-clause-one : goal.returns-clause-one
returns-clause-one c =
    let so = laid-none c.new-out.result c.args.first.now c.args.second.now (operations_left c.new.result) (operations_left c.new-2.result) c.new-out.ensures
    (c.new.ensures ∙ c.ops.ensures.ops) (c.new-2.ensures ∙ c.ops-2.ensures.ops) c.ops.ensures.normal c.ops-2.ensures.normal c.ops.ensures.bounded c.ops-2.ensures.bounded in
    let outcome = c.end.ensures c.args.first.now c.args.second.now (c.in_ok-rest.ensures.on c.args.first.now c.args.second.now [] so) in
    outcome.one

pub returns-clause-composes : goal.returns-clause-composes
returns-clause-composes c =
    let so = laid-none c.new-out.result c.args.first.now c.args.second.now (operations_left c.new.result) (operations_left c.new-2.result) c.new-out.ensures
    (c.new.ensures ∙ c.ops.ensures.ops) (c.new-2.ensures ∙ c.ops-2.ensures.ops) c.ops.ensures.normal c.ops-2.ensures.normal c.ops.ensures.bounded c.ops-2.ensures.bounded in
    let outcome = c.end.ensures c.args.first.now c.args.second.now (c.in_ok-rest.ensures.on c.args.first.now c.args.second.now [] so) in
    map_ok c.end.result (λ one is. subst (λ l. Composes l c.args.first.now c.args.second.now) (sym is) (composes_by_normal c.args.first.now c.args.second.now)) outcome.one

pub returns-clause-accepted : goal.returns-clause-accepted
returns-clause-accepted c =
    let so = laid-none c.new-out.result c.args.first.now c.args.second.now (operations_left c.new.result) (operations_left c.new-2.result) c.new-out.ensures
    (c.new.ensures ∙ c.ops.ensures.ops) (c.new-2.ensures ∙ c.ops-2.ensures.ops) c.ops.ensures.normal c.ops-2.ensures.normal c.ops.ensures.bounded c.ops-2.ensures.bounded in
    let outcome = c.end.ensures c.args.first.now c.args.second.now (c.in_ok-rest.ensures.on c.args.first.now c.args.second.now [] so) in
    outcome.accepted

pub returns-clause-only : goal.returns-clause-only
returns-clause-only c =
    let so = laid-none c.new-out.result c.args.first.now c.args.second.now (operations_left c.new.result) (operations_left c.new-2.result) c.new-out.ensures
    (c.new.ensures ∙ c.ops.ensures.ops) (c.new-2.ensures ∙ c.ops-2.ensures.ops) c.ops.ensures.normal c.ops-2.ensures.normal c.ops.ensures.bounded c.ops-2.ensures.bounded in
    let outcome = c.end.ensures c.args.first.now c.args.second.now (c.in_ok-rest.ensures.on c.args.first.now c.args.second.now [] so) in
    outcome.refused

pub returns-clause-long : goal.returns-clause-long
returns-clause-long c =
    let so = laid-none c.new-out.result c.args.first.now c.args.second.now (operations_left c.new.result) (operations_left c.new-2.result) c.new-out.ensures
    (c.new.ensures ∙ c.ops.ensures.ops) (c.new-2.ensures ∙ c.ops-2.ensures.ops) c.ops.ensures.normal c.ops-2.ensures.normal c.ops.ensures.bounded c.ops-2.ensures.bounded in
    let outcome = c.end.ensures c.args.first.now c.args.second.now (c.in_ok-rest.ensures.on c.args.first.now c.args.second.now [] so) in
    λ bad. let refused = refused_so (IsComposeRefused c.args.first.now c.args.second.now) c.end.result BadOps bad outcome.refused in long-two c.args.first.now c.args.second.now refused.1
