use Rattle.std.proofs.Common.{sym, ap, subst, ◌∙◌}
use Rattle.delta.specs.Lead.{lead_of, with_lead}
use Rattle.delta.specs.Operation.{IsBounded}
use Rattle.xform.proofs.Leading.{still-moving}
use Rattle.xform.proofs.moving.Moving.set_lead.Goals as goal

pub invariant_of-self : goal.invariant_of-self
invariant_of-self c =
    let was = c.self.inside in
    still-moving was.delta was.lead was.base was.out c.args.kept c.args.len c.self.invariant (ap lead_of c.self.view_is ∙ c.requires.kept)
    c.requires.some (subst (λ l. IsBounded (with_lead c.args.len l)) (sym c.self.view_is) c.requires.bounded)

pub returns-clause-normal : goal.returns-clause-normal
returns-clause-normal c = (invariant_of-self c).normal
