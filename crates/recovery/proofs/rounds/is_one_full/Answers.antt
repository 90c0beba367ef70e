use Rattle.std.proofs.Common.{◌≡◌, Some, false, get_or, sym, ◌∙◌, subst, arith, rules}
use Rattle.std.specs.Prelude.{slice_get}
use Rattle.std.proofs.lemmas.Option.{slice_get-get_or, same_Some}
use Rattle.milestone.specs.declared.cells.Cells.{Cells}
use Rattle.milestone.specs.Cells.{HasClosed, revisions_of}
use Rattle.recovery.proofs.ClosedBefore.{closed_more}
use Rattle.recovery.proofs.rounds.is_one_full.Goals as goal

pub loop-member-init : goal.loop-member-init
loop-member-init c k m inside is one at = absurd (omega (arith, inside))

pub loop-member-preserved : goal.loop-member-preserved
loop-member-preserved c =
    let ms = c.args.members.now in
    let known = c.args.cells.now in
    let k = c.loop-member.member-index in
    let m = c.member-item.result in
    let is : get_or ms k m ≡ m = sym c.member-item.is in
    let one : Cells = get_or known m.document c.index-cells-member.result in
    let at : slice_get known m.document ≡ Some one =
    slice_get-get_or known m.document c.index-cells-member.result (c.requires.inside k m c.loop-member-test.true is) in
    let closed : HasClosed (revisions_of one) = search rules in
    closed_more ms known k m (λ x. (c : Cells) → slice_get known x.document ≡ Some c → HasClosed (revisions_of c)) c.loop-member-test.true is
    (λ d there. subst (λ (x : Cells). HasClosed (revisions_of x)) (same_Some one d (sym at ∙ there)) closed) c.loop-member.invariant

-- one with both cells open
pub returns-then-are_both_open-clause-some : goal.returns-then-are_both_open-clause-some
returns-then-are_both_open-clause-some c told closed =
    let ms = c.args.members.now in
    let known = c.args.cells.now in
    let k = c.loop-member.member-index in
    let m = c.member-item.result in
    let is : get_or ms k m ≡ m = sym c.member-item.is in
    let one : Cells = get_or known m.document c.index-cells-member.result in
    let at : slice_get known m.document ≡ Some one =
    slice_get-get_or known m.document c.index-cells-member.result (c.requires.inside k m c.loop-member-test.true is) in
    let full : ¬ HasClosed (revisions_of one) = search rules in
    full (closed k m c.loop-member-test.true is one at)

-- none of them
pub returns-clause-none : goal.returns-clause-none
returns-clause-none c told k m inside is one at =
    c.loop-member.invariant k m (omega (arith, inside, c.loop-member-test.false)) is one at
