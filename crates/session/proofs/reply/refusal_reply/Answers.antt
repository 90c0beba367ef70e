use Rattle.std.proofs.Common.{◌≡◌, refl}
use Rattle.std.proofs.Common.{rules}
use Rattle.std.proofs.lemmas.Result.{IfOk-weaker}
use Rattle.serde_json.specs.View.{view}
use Rattle.serde_json.specs.declared.value.Value.{the_lemmas}
use Rattle.session.specs.Reply as spec
use Rattle.session.proofs.reply.refusal_reply.Goals as goal

pub returns : goal.returns
returns c =
    let built : view c.in_ok-value.value ≡ spec.refusal_reply c.args.refusal = search (rules, the_lemmas) in
    IfOk-weaker c.line_of.result _ _ (λ text h. h refl) (rw built at c.line_of.ensures)
