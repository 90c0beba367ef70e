use Rattle.std.proofs.Common.{◌≡◌, true, false, rules}
use Rattle.session.proofs.Pages.{spells-as, spells-nothing}
use Rattle.session.proofs.OperationTexts.{comma-none, comma-some}
use Rattle.session.proofs.printing.push_comma.Goals as goal

pub returns-then-not-later : goal.returns-then-not-later
returns-then-not-later g c =
    let none : c.args.later ≡ false = search rules in
    spells-as (comma-none c.args.later none) (spells-nothing c.args.out.now c.args.page.now)

pub returns : goal.returns
returns g c =
    let some : c.args.later ≡ true = search rules in
    spells-as (comma-some c.args.later some) c.push_str.ensures
