use Rattle.std.proofs.Common.{◌≡◌, [], refl, rules}
use Rattle.std.proofs.lemmas.List.{nil_from_length}
use Rattle.serde_json.specs.Data.{object}
use Rattle.serde_json.specs.Written.{compact_text}
use Rattle.optext.specs.Printed.{printed_entries, printed_change}
use Rattle.session.proofs.Pages.{front-none, front-more, front-ends, spells-both}
use Rattle.session.proofs.OperationTexts.{member-next, member-end}
use Rattle.session.proofs.printing.push_changes.Goals as goal

pub loop-entry-init : goal.loop-entry-init
loop-entry-init g c = front-more refl (front-none c.args.out.now c.args.page.now (compact_text (object (printed_entries printed_change c.args.entries.now)))) c.push_str.ensures

pub loop-entry-preserved : goal.loop-entry-preserved
loop-entry-preserved g c =
    front-more (member-next printed_change c.loop-entry.later c.loop-entry.rest.now c.in-Some.others.now c.in-Some.entry.now c.in-Some.ensures.cases.0) c.loop-entry.invariant
    (spells-both c.push_name.ensures c.push_change.ensures)

pub returns : goal.returns
returns g c =
    let none : c.loop-entry.rest.now ≡ [] = nil_from_length c.loop-entry.rest.now (search rules) in
    front-ends (member-end printed_change c.loop-entry.later c.loop-entry.rest.now none) c.loop-entry.invariant c.push_str-2.ensures
