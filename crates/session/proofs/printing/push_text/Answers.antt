use Rattle.session.proofs.Pages.{spells-as, spells-both}
use Rattle.session.proofs.OperationTexts.{insert_text_is}
use Rattle.session.proofs.printing.push_text.Goals as goal

pub returns : goal.returns
returns g c =
    spells-as (insert_text_is c.args.attrs.now c.args.text.now _ (c.text_of_units.ensures c.args.text.now c.utf8.text))
    (spells-both c.push_opening.ensures (spells-both c.push_str.ensures (spells-both c.push_quoted.ensures c.push_str-2.ensures)))
