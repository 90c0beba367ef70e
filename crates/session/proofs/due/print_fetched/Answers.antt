use Rattle.std.proofs.Common.{ap}
use Rattle.json.specs.Print.{quoted}
use Rattle.delta.specs.Gaps.{End}
use Rattle.delta.specs.Normal.{nf}
use Rattle.session.specs.Reply.{printed_delta}
use Rattle.session.proofs.Pages.{spells-as, spells-both}
use Rattle.session.proofs.Spelled.{fetched_line}
use Rattle.session.proofs.due.print_fetched.Goals as goal

pub returns : goal.returns
returns g c =
    spells-as (fetched_line c.args.name.now (printed_delta (nf (End c.args.document.now))) c.args.rev)
    (spells-both c.push_str.ensures (spells-both (spells-as (ap (λ t. quoted t) c.as_str.ensures.text) c.push_quoted.ensures)
    (spells-both c.push_str-2.ensures (spells-both c.push_document.ensures
    (spells-both c.push_str-3.ensures (spells-both c.push_number.ensures c.push_str-4.ensures))))))
