use Rattle.std.proofs.Common.{◌≡◌, false, true, List, sym, ◌∙◌, ap, subst, arith}
use Rattle.std.proofs.lemmas.List.{take_all}
use Rattle.recovery.specs.declared.group.Member.{Member}
use Rattle.recovery.specs.steps.Group.{is_in}
use Rattle.recovery.proofs.Members.{in_at, in_other}
use Rattle.recovery.proofs.composed.has_member.Goals as goal

pub returns-then-member-document : goal.returns-then-member-document
returns-then-member-document c =
    let m = c.member-item.result in
    sym (subst (λ n. is_in c.args.members.now n ≡ true) c.if-member-document.true
    (in_at c.args.members.now c.loop-member.member-index m c.loop-member-test.true (sym c.member-item.is)))

pub loop-member-preserved : goal.loop-member-preserved
loop-member-preserved c =
    in_other c.args.members.now c.loop-member.member-index c.member-item.result c.loop-member-test.true (sym c.member-item.is) c.args.document c.if-member-document.false
    ∙ c.loop-member.invariant

pub returns : goal.returns
returns c =
    sym (ap (λ (l : List Member). is_in l c.args.document) (sym (take_all c.loop-member.member-index c.args.members.now (omega (arith, c.loop-member-test.false)))) ∙ c.loop-member.invariant)
