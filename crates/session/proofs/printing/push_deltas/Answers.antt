use Rattle.std.proofs.Common.{◌≡◌, [], true, map, refl, rules}
use Rattle.std.proofs.lemmas.List.{nil_from_length}
use Rattle.serde_json.specs.Data.{array}
use Rattle.serde_json.specs.View.{items_of}
use Rattle.serde_json.specs.Written.{compact_text}
use Rattle.session.specs.Reply.{printed_delta}
use Rattle.session.proofs.Pages.{front-none, front-more, front-ends, front-last, spells-both, spells-failed}
use Rattle.session.proofs.OperationTexts.{item-next, item-end}
use Rattle.session.proofs.printing.push_deltas.Goals as goal

pub loop-delta-init : goal.loop-delta-init
loop-delta-init g c = front-more refl (front-none c.args.out.now c.args.page.now (compact_text (array (items_of (map printed_delta c.args.deltas.now))))) c.push_str.ensures

pub loop-delta-preserved : goal.loop-delta-preserved
loop-delta-preserved g c =
    front-more (item-next printed_delta c.loop-delta.later c.loop-delta.rest.now c.in-Some.others.now c.in-Some.delta.now c.in-Some.ensures.cases.0) c.loop-delta.invariant
    (spells-both c.push_comma.ensures c.push_delta.ensures)

pub returns : goal.returns
returns g c =
    let none : c.loop-delta.rest.now ≡ [] = nil_from_length c.loop-delta.rest.now (search rules) in
    front-ends (item-end printed_delta c.loop-delta.later c.loop-delta.rest.now none) c.loop-delta.invariant c.push_str-2.ensures

pub returns-then-has_failed : goal.returns-then-has_failed
returns-then-has_failed g c =
    let failed : c.loop-delta.page.failed ≡ true = search rules in
    front-last c.loop-delta.invariant (spells-failed c.loop-delta.out c.loop-delta.page _ failed)
