use Rattle.std.proofs.Common.{ap}
use Rattle.json.specs.Print.{quoted}
use Rattle.session.specs.Reply.{printed_delta}
use Rattle.session.proofs.Pages.{spells-as, spells-both}
use Rattle.session.proofs.Spelled.{change_line}
use Rattle.session.proofs.due.print_change.Goals as goal

pub returns : goal.returns
returns g c =
    spells-as (change_line c.args.name.now c.args.revision (printed_delta c.args.delta.now))
    (spells-both c.push_str.ensures (spells-both (spells-as (ap (λ t. quoted t) c.as_str.ensures.text) c.push_quoted.ensures)
    (spells-both c.push_str-2.ensures (spells-both c.push_number.ensures
    (spells-both c.push_str-3.ensures (spells-both c.push_delta.ensures c.push_str-4.ensures))))))
