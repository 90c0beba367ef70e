use Rattle.std.proofs.Common.{arith, ◌≡◌, ◌<◌, [], true, sym, ap, subst, ◌∙◌}
use Rattle.std.proofs.lemmas.Bool.{ltb-true}
use Rattle.delta.specs.Normal.{IsNormal}
use Rattle.delta.specs.Operation.{base_of}
use Rattle.xform.specs.After.{second_past}
use Rattle.xform.proofs.Apart.{begins-lead, none-from, past-nothing, past-before}
use Rattle.xform.proofs.moving.Moving.ends_before.Goals as goal

pub returns-in-Some-clause-same : goal.returns-in-Some-clause-same
returns-in-Some-clause-same c =
    λ short.
    let second = c.args.self.now in
    let kept = c.in-Some.kept in
    let begins = begins-lead kept c.args.first.now (sym c.lead.ensures.lead ∙ c.in-Some.is) in
    let is_short : base_of second < kept = omega (arith, ltb-true c.self.inside.base kept short, c.self.invariant.base_is, ap base_of c.self.view_is) in
    ap (λ l. second_past l second true) begins.1 ∙ past-before kept begins.0 second (subst IsNormal c.self.view_is c.self.invariant.normal) is_short

pub returns-in-None-clause-same : goal.returns-in-None-clause-same
returns-in-None-clause-same c =
    λ empty.
    let none : c.args.first.now ≡ [] = sym c.ops.ensures.ops ∙ none-from c.ops.result.now (sym c.is_empty.ensures ∙ empty) in
    ap (λ l. second_past l c.args.self.now true) none ∙ past-nothing c.args.self.now (subst IsNormal c.self.view_is c.self.invariant.normal)
