use Rattle.std.proofs.Common.{ap}
use Rattle.json.specs.Print.{quoted}
use Rattle.serde_json.specs.Data.{array}
use Rattle.session.specs.Reply.{printed_deltas}
use Rattle.session.proofs.Pages.{spells-as, spells-both}
use Rattle.session.proofs.Spelled.{since_line}
use Rattle.session.proofs.due.print_since.Goals as goal

pub returns : goal.returns
returns g c =
    spells-as (since_line c.args.name.now (array (printed_deltas c.args.deltas.now)) c.args.rev)
    (spells-both c.push_str.ensures (spells-both c.push_deltas.ensures (spells-both c.push_str-2.ensures
    (spells-both (spells-as (ap (λ t. quoted t) c.as_str.ensures.text) c.push_quoted.ensures)
    (spells-both c.push_str-3.ensures (spells-both c.push_number.ensures c.push_str-4.ensures))))))
