use Rattle.std.proofs.Common.{◌≡◌, inl, inr, true, false, List, [], ◌∷◌, ◌++◌, refl, ◌∙◌, ap, rules, arith}
use Rattle.std.specs.Prelude.{Contains}
use Rattle.recovery.specs.declared.group.Member.{Member}
use Rattle.recovery.specs.Open.{kept_jobs}
use Rattle.recovery.specs.steps.Freeing.{bytes_of}
use Rattle.recovery.specs.steps.Group.{is_in}
use Rattle.recovery.proofs.FullGroups.{bytes_push}
use Rattle.recovery.proofs.store.Store.add_kept.Goals as goal

pub returns-then-not-is_kept-clause-added : goal.returns-then-not-is_kept-clause-added
returns-then-not-is_kept-clause-added g c =
    let none : ¬ Contains (kept_jobs c.args.self.now) c.args.composed.now = search rules in
    inl (refl, λ kept. absurd (none kept))

pub returns-then-has_member-clause-added : goal.returns-then-has_member-clause-added
returns-then-has_member-clause-added g c =
    let there : is_in c.args.members.now.items c.args.composed.now.document ≡ true = search rules in
    inl (refl, λ kept. there)

pub spell_composed-requires : goal.spell_composed-requires
spell_composed-requires g c = let contains : Contains (kept_jobs c.args.self.now) c.args.composed.now = search rules in record { kept = contains }

pub returns-clause-added : goal.returns-clause-added
returns-clause-added g c =
    let away : is_in c.args.members.now.items c.args.composed.now.document ≡ false = search rules in
    let pushed : c.push.new.self.items ≡ c.args.members.now.items ++ c.in-Ok.member ∷ [] = search rules in
    inr (c.in-Ok.member, pushed, ap (λ n. is_in c.args.members.now.items n) c.in-Ok.ensures.document ∙ away, c.in-Ok.ensures.document, c.in-Ok.ensures.made)

pub returns-clause-counted : goal.returns-clause-counted
returns-clause-counted g c =
    let pushed : c.push.new.self.items ≡ c.args.members.now.items ++ c.in-Ok.member ∷ [] = search rules in
    omega (arith, bytes_push c.args.members.now.items c.in-Ok.member, ap (λ (l : List Member). bytes_of l) pushed)
