use Rattle.std.proofs.Common.{◌≡◌, ◌++◌, [], ◌∷◌, ap, subst, sym, ◌∙◌, arith}
use Rattle.std.specs.Prelude.{Result, Err}
use Rattle.std.proofs.lemmas.Result.{err_from_is_err_and, on_ok_weaker, on_err_weaker}
use Rattle.refusal.specs.declared.Refusal.{Refusal}
use Rattle.refusal.specs.declared.Refusal.TheVariants.{BadOps}
use Rattle.delta.specs.Operation.{retain, op_base, IsBounded}
use Rattle.delta.specs.Normal.{built}
use Rattle.delta.specs.steps.Building.{with_plain}
use Rattle.delta.proofs.Trimmed.{built-more, built-put, built-released, built-empty, built-built, plain-le, never-bounded, bounded-plain}
use Rattle.delta.proofs.trimming.TrimmingBuilder.push.Goals as goal

pub returns-then-len16-eq0-clause-ok : goal.returns-then-len16-eq0-clause-ok
returns-then-len16-eq0-clause-ok c =
    sym
    (built-empty c.args.self.now c.args.op (sym c.len16.ensures ∙ c.if-len16-eq0.true)
    ∙ (ap built (sym c.self.view_is) ∙ (built-built (with_plain c.self.inside.builder c.self.inside.plain) ∙ c.self.view_is)))

pub overflow_add-self : goal.overflow_add-self
overflow_add-self c =
    omega (arith, plain-le c.self.inside.builder c.args.self.now c.self.inside.plain c.self.view_is, ap op_base c.in-Some.ensures, c.requires.room)

pub returns-in-Some-clause-ok : goal.returns-in-Some-clause-ok
returns-in-Some-clause-ok c = built-more c.self.inside.builder c.args.self.now c.self.inside.plain c.in-Some.len c.args.op c.self.view_is c.in-Some.ensures

pub returns-in_err-push-clause-bad : goal.returns-in_err-push-clause-bad
returns-in_err-push-clause-bad c =
    λ e.
    let p = err_from_is_err_and c.from_residual.result c.from_residual.ensures.1 in
    let from : p.0 ≡ c.in_err-push.field-0.0 = p.2 in
    let was : ◌≡◌ {A = Result (Unit {0}) Refusal} c.from_residual.result (Err p.0) = p.1 in
    let bad : ◌≡◌ {A = Result (Unit {0}) Refusal} (Err c.in_err-push.field-0.0) (Err BadOps) = cc in
    never-bounded (c.self.inside.builder ++ c.retain.result ∷ []) c.args.self.now c.args.op c.in_default.ensures (omega (arith, c.len16.ensures, c.if-len16-eq0.false))
    (λ h. subst (λ o. IsBounded (c.self.inside.builder ++ o ∷ [])) (sym (c.retain.ensures ∙ ap (retain c.self.inside.plain) c.new.ensures)) (bounded-plain c.self.inside.builder c.args.self.now c.self.inside.plain c.args.op c.self.view_is h))
    (c.in_err-push.ensures.bad.0 bad)

put_out : (c : goal.After-push-2) → c.push.new.self ≡ built (with_plain c.self.inside.builder c.self.inside.plain)
put_out c = c.in_ok-push.ensures.ok ∙ ap (λ o. built (c.self.inside.builder ++ o ∷ [])) (c.retain.ensures ∙ ap (retain c.self.inside.plain) c.new.ensures)

pub returns-clause-ok : goal.returns-clause-ok
returns-clause-ok c =
    on_ok_weaker c.push-2.result
    (built-released c.self.inside.builder c.push.new.self c.push-2.new.self c.args.self.now c.self.inside.plain c.args.op c.self.view_is (put_out c))
    c.push-2.ensures.ok

pub returns-clause-err : goal.returns-clause-err
returns-clause-err c =
    on_err_weaker c.push-2.result
    (λ same. ap (λ ops. built (with_plain ops 0)) same ∙ built-put c.self.inside.builder c.push.new.self c.args.self.now c.self.inside.plain c.self.view_is (put_out c))
    c.push-2.ensures.err

pub returns-clause-bad : goal.returns-clause-bad
returns-clause-bad c =
    λ e.
    never-bounded (c.push.new.self ++ c.args.op ∷ []) c.args.self.now c.args.op c.in_default.ensures (omega (arith, c.len16.ensures, c.if-len16-eq0.false))
    (λ h. subst (λ ops. IsBounded (ops ++ c.args.op ∷ [])) (sym (put_out c ∙ c.self.view_is)) h)
    (c.push-2.ensures.bad.0 e)
