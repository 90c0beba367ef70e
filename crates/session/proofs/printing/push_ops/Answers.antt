use Rattle.std.proofs.Common.{◌≡◌, [], map, refl, rules}
use Rattle.std.proofs.lemmas.List.{nil_from_length}
use Rattle.serde_json.specs.Data.{array}
use Rattle.serde_json.specs.View.{items_of}
use Rattle.serde_json.specs.Written.{compact_text}
use Rattle.optext.specs.Printed.{printed_operation}
use Rattle.session.proofs.Pages.{front-none, front-more, front-ends, spells-both}
use Rattle.session.proofs.OperationTexts.{item-next, item-end}
use Rattle.session.proofs.printing.push_ops.Goals as goal

pub loop-op-init : goal.loop-op-init
loop-op-init g c = front-more refl (front-none c.args.out.now c.args.page.now (compact_text (array (items_of (map printed_operation c.args.ops.now))))) c.push_str.ensures

pub loop-op-preserved : goal.loop-op-preserved
loop-op-preserved g c =
    front-more (item-next printed_operation c.loop-op.later c.loop-op.rest.now c.in-Some.others.now c.in-Some.op.now c.in-Some.ensures.cases.0) c.loop-op.invariant
    (spells-both c.push_comma.ensures c.push_op.ensures)

pub returns : goal.returns
returns g c =
    let none : c.loop-op.rest.now ≡ [] = nil_from_length c.loop-op.rest.now (search rules) in
    front-ends (item-end printed_operation c.loop-op.later c.loop-op.rest.now none) c.loop-op.invariant c.push_str-2.ensures
