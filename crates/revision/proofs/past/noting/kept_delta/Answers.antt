use Rattle.std.proofs.Common.{◌≡◌, ◌≤◌, ◌^◌, false, length, List, sym, subst, ◌∙◌}
use Rattle.delta.specs.Element.{Element}
use Rattle.revision.specs.Command.{deletes}
use Rattle.revision.proofs.Keeping.{stands-accepted}
use Rattle.revision.proofs.Light.{stands-change, after-change}
use Rattle.revision.proofs.past.noting.kept_delta.Goals as goal

pub returns-clause-accepted : goal.returns-clause-accepted
returns-clause-accepted c =
    let step = c.args.step in
    let units = c.args.document.now in
    let other : deletes step ≡ false = sym c.deletes.ensures ∙ c.if-deletes.false in
    stands-accepted c.args.delta units (sym (stands-change step c.args.delta units other c.requires.blank) ∙ c.requires.stands)
    (subst (λ (u : List Element). length u ≤ 2 ^ 29) (after-change step c.args.delta units other c.requires.blank) c.requires.short)
