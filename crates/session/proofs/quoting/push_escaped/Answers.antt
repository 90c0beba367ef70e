use Rattle.std.proofs.Common.{◌≡◌, [], ap, ◌∙◌, sym}
use Rattle.std.proofs.lemmas.Bool.{eqb-true}
use Rattle.std.proofs.lemmas.List.{nil_from_length}
use Rattle.json.specs.Print.{escape}
use Rattle.session.proofs.Pages.{front-none, front-more, front-end}
use Rattle.session.proofs.OperationTexts.{escape-append}
use Rattle.session.proofs.quoting.push_escaped.Goals as goal

pub loop-rest-init : goal.loop-rest-init
loop-rest-init g c = front-none c.args.out.now c.args.page.now (escape c.args.text.now)

pub loop-rest-preserved : goal.loop-rest-preserved
loop-rest-preserved g c =
    let t = c.push_some-rest.ensures.spelled in
    front-more (ap escape t.1 ∙ escape-append t.0 c.push_some-rest.result.now) c.loop-rest.invariant t.2

pub returns : goal.returns
returns g c =
    let none : c.loop-rest.rest.now ≡ [] = nil_from_length c.loop-rest.rest.now (eqb-true _ _ (sym c.is_empty.ensures ∙ c.loop-rest-test.false)) in
    front-end (ap escape none) c.loop-rest.invariant
