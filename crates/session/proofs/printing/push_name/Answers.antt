use Rattle.std.proofs.Common.{◌≡◌, ap, rules}
use Rattle.json.specs.Print.{quoted}
use Rattle.session.proofs.Pages.{spells-as, spells-both}
use Rattle.session.proofs.printing.push_name.Goals as goal

pub returns : goal.returns
returns g c =
    let name : c.as_str.result.now ≡ c.args.name.now = search rules in
    spells-both c.push_comma.ensures (spells-both (spells-as (ap (λ t. quoted t) name) c.push_quoted.ensures) c.push_str.ensures)
