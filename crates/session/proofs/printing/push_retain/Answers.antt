use Rattle.session.proofs.Pages.{spells-as, spells-both}
use Rattle.session.proofs.OperationTexts.{retain_is}
use Rattle.session.proofs.printing.push_retain.Goals as goal

pub returns : goal.returns
returns g c =
    spells-as (retain_is c.args.change.now c.args.len)
    (spells-both c.push_opening_of_change.ensures (spells-both c.push_str.ensures (spells-both c.push_number.ensures c.push_str-2.ensures)))
