use Rattle.std.proofs.Common.{◌≡◌, ◌≤◌, ◌<◌, ◌^◌, ℕ, List, Ok, true, sym, ap, ◌∙◌, arith}
use Rattle.revision.specs.Name.{is_document_name}
use Rattle.revision.specs.Command.{Edit, Command}
use Rattle.session.specs.declared.request.Request.TheVariants.{Ask}
use Rattle.session.specs.Request.{with_delta}
use Rattle.session.proofs.EditFields.{edit_due}
use Rattle.attributes.proofs.CallerLemmas.{IfSome-map}
use Rattle.session.proofs.ScalarTokens.{kept}
use Rattle.session.proofs.tokened.fields.Fields.command.Goals as goal

pub returns : goal.returns
returns c =
    let doc = c.in_ok-doc.doc in
    let n = c.in_ok-number.number in
    let base = c.in_ok-base.base in
    let delta = c.in_ok-delta.delta in
    let named : (c.in_ok-name.name ≡ doc.now) × (is_document_name c.in_ok-name.name ≡ true) =
    kept (λ (s : List ℕ). (s ≡ doc.now) × (is_document_name s ≡ true)) c.doc.result c.in_ok-name.name c.in_ok-name.ensures.value c.doc.ensures.ok in
    let copied : c.in_ok-source.source ≡ c.args.source.now = kept (λ (s : List ℕ). s ≡ c.args.source.now) c.copy.result c.in_ok-source.source c.in_ok-source.ensures.value c.copy.ensures.ok in
    let some : 1 ≤ n = omega arith in
    let small : n < 2 ^ 53 = omega arith in
    let low : base < 2 ^ 53 = omega arith in
    let edits : c.args.self.edits ≡ true = grind arith in
    IfSome-map (λ (command : Command). with_delta c.in_ok-source.source c.in_ok-name.name n (Edit base) (Ok delta) ≡ Ok (Ask command)) _ c.edit.result
    (λ command asked value is.
    edit_due c.args.self c.args.source.now value doc n base delta command edits c.in_ok-doc.was c.in_ok-number.was c.in_ok-base.was c.in_ok-delta.was some small low
    (ap is_document_name (sym named.0) ∙ named.1) (rw (← copied, ← named.0) asked) is)
    c.edit.ensures
