use Rattle.std.proofs.Common.{◌≡◌, ap, rules}
use Rattle.json.specs.Print.{quoted}
use Rattle.session.proofs.Pages.{spells-as, spells-both}
use Rattle.session.proofs.OperationTexts.{insert_embed_is}
use Rattle.session.proofs.printing.push_embed.Goals as goal

pub returns : goal.returns
returns g c =
    let name : c.as_str.result.now ≡ c.args.name.now = search rules in
    spells-as (insert_embed_is c.args.attrs.now c.args.name.now c.args.value.now)
    (spells-both c.push_opening.ensures (spells-both c.push_str.ensures (spells-both (spells-as (ap (λ t. quoted t) name) c.push_quoted.ensures)
    (spells-both c.push_str-2.ensures (spells-both c.push_value.ensures c.push_str-3.ensures)))))
