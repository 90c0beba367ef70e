use Rattle.std.proofs.Common.{◌≡◌, ◌∙◌, ◌++◌, [], ◌∷◌, refl, sym, ap, subst, arith}
use Rattle.std.specs.Prelude.{IsTrue}
use Rattle.std.proofs.lemmas.Result.{err_from_is_err_and}
use Rattle.std.specs.Prelude.{Result, Err}
use Rattle.refusal.specs.declared.Refusal.{Refusal}
use Rattle.refusal.specs.declared.Refusal.TheVariants.{BadOps, NoMemory}
use Rattle.delta.specs.Operation.{base_of, out_of, IsBounded}
use Rattle.delta.specs.Normal.{is_built, built}
use Rattle.delta.proofs.Pushed.{base_of-push, out_of-push, bounded-room, built-added, built-nothing, IsBuilding-push}
use Rattle.delta.proofs.builder.Builder.push.Goals as goal
use Rattle.delta.proofs.builder.Builder.push.Goals.{then-base-self-via-then-base-self, then-base-self-via-else-base-self+then-out-self, Joined-op}

over : (c : Joined-op) → ¬ (IsBounded (c.args.self.now ++ c.args.op ∷ []))
over c bounded =
    let base = base_of-push c.args.self.now c.args.op bounded in
    let out = out_of-push c.args.self.now c.args.op bounded in
    elim c.then-base-self.branch [
      | then-base-self-via-then-base-self w ↦ absurd (omega (arith, w.if-base-self.true, c.base_len-base.ensures, c.self.invariant.base_is, ap base_of c.self.view_is))
      | then-base-self-via-else-base-self+then-out-self w ↦ absurd (omega (arith, w.if-out-self.true, c.out_len-out.ensures, c.self.invariant.out_is, ap out_of c.self.view_is))
    ]

pub returns-then-base-self-clause-bad : goal.returns-then-base-self-clause-bad
returns-then-base-self-clause-bad c = (λ _. over c, λ _. refl)

pub returns-then-len-eq0-clause-ok : goal.returns-then-len-eq0-clause-ok
returns-then-len-eq0-clause-ok c =
    built-nothing c.args.self.now c.args.op (subst (λ l. IsTrue (is_built l)) c.self.view_is c.self.invariant.built) (sym c.base_len-base.ensures ∙ omega arith) (sym c.out_len-out.ensures ∙ omega arith)

pub returns-then-len-eq0-clause-bad : goal.returns-then-len-eq0-clause-bad
returns-then-len-eq0-clause-bad c =
    let bounded = bounded-room c.self.inside.ops.items c.args.self.now c.args.op c.self.inside.base c.self.inside.out c.base_len-base.result c.out_len-out.result c.self.invariant c.self.view_is c.base_len-base.ensures c.out_len-out.ensures c.if-base-self.false c.if-out-self.false in
    (λ e. absurd (cc), λ past. absurd (past bounded))

pub returns-in_err-put-clause-bad : goal.returns-in_err-put-clause-bad
returns-in_err-put-clause-bad c =
    let bounded = bounded-room c.self.inside.ops.items c.args.self.now c.args.op c.self.inside.base c.self.inside.out c.base_len-base.result c.out_len-out.result c.self.invariant c.self.view_is c.base_len-base.ensures c.out_len-out.ensures c.if-base-self.false c.if-out-self.false in
    let p = err_from_is_err_and c.from_residual.result c.from_residual.ensures.1 in
    let from : p.0 ≡ NoMemory = p.2 in
    let was : ◌≡◌ {A = Result (Unit {0}) Refusal} c.from_residual.result (Err p.0) = p.1 in
    (λ (e : ◌≡◌ {A = Result (Unit {0}) Refusal} c.from_residual.result (Err BadOps)). absurd (cc), λ past. absurd (past bounded))

pub invariant_of-self-2 : goal.invariant_of-self-2
invariant_of-self-2 c =
    let items : c.put.new.ops.items ≡ built (c.self.inside.ops.items ++ c.args.op ∷ []) =
    built-added c.self.inside.ops.items c.put.new.ops.items c.args.op c.self.invariant.built (omega (arith, c.base_len-base.ensures, c.out_len-out.ensures)) c.in_ok-put.ensures.ok in
    IsBuilding-push c.self.inside.ops.items c.put.new.ops.items c.args.op c.self.inside.base c.self.inside.out c.base_len-base.result c.out_len-out.result c.self.invariant items c.base_len-base.ensures c.out_len-out.ensures c.if-base-self.false c.if-out-self.false

pub returns-clause-ok : goal.returns-clause-ok
returns-clause-ok c =
    built-added c.self.inside.ops.items c.put.new.ops.items c.args.op c.self.invariant.built (omega (arith, c.base_len-base.ensures, c.out_len-out.ensures)) c.in_ok-put.ensures.ok ∙ ap (λ l. built (l ++ c.args.op ∷ [])) c.self.view_is

pub returns-clause-bad : goal.returns-clause-bad
returns-clause-bad c =
    let bounded = bounded-room c.self.inside.ops.items c.args.self.now c.args.op c.self.inside.base c.self.inside.out c.base_len-base.result c.out_len-out.result c.self.invariant c.self.view_is c.base_len-base.ensures c.out_len-out.ensures c.if-base-self.false c.if-out-self.false in
    (λ e. absurd (cc), λ past. absurd (past bounded))
