use Rattle.std.proofs.Common.{◌≡◌, ◌∙◌, rules}
use Rattle.std.specs.Fmt.{signed_decimal}
use Rattle.session.proofs.Pages.{spells-as}
use Rattle.session.proofs.OperationTexts.{whole_text}
use Rattle.session.proofs.printing.push_whole.Goals as goal

pub returns : goal.returns
returns g c =
    let digits : c.format.result.now ≡ signed_decimal c.args.number = search rules in
    spells-as (digits ∙ whole_text c.args.number) c.push_str.ensures
