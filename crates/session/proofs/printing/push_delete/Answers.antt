use Rattle.session.proofs.Pages.{spells-as, spells-both}
use Rattle.session.proofs.OperationTexts.{delete_is}
use Rattle.session.proofs.printing.push_delete.Goals as goal

pub returns : goal.returns
returns g c = spells-as (delete_is c.args.len) (spells-both c.push_str.ensures (spells-both c.push_number.ensures c.push_str-2.ensures))
