use Rattle.std.proofs.Common.{rules, ◌≡◌, ◌-◌, ◌+◌, List, sym, subst, ◌∙◌}
use Rattle.delta.specs.Operation.{Operation, IsBounded}
use Rattle.delta.specs.Lead.{lead_units, with_lead, RetainsFirst}
use Rattle.delta.specs.steps.Building.{IsDelta}
use Rattle.delta.proofs.Leads.{delta-lead, lead-longer, lead-other}
use Rattle.delta.proofs.delta.Delta.set_lead.Goals.{then-self-ne0, else-self-ne0}
use Rattle.delta.proofs.delta.Delta.set_lead.Goals as goal

pub invariant_of-self-in-Some : goal.invariant_of-self-in-Some
invariant_of-self-in-Some c =
    let ops = c.self.inside.ops in
    let base = c.self.inside.base - c.in-Some.old + c.args.len in
    let out = c.self.inside.out - c.in-Some.old + c.args.len in
    let first : RetainsFirst ops c.in-Some.old = search rules in
    let is : c.lengthen_first.new.self ≡ with_lead c.args.len ops = c.in_ok-old.ensures.lead in
    let delta : IsDelta c.lengthen_first.new.self base out = subst (λ (l : List Operation). IsDelta l base out) (sym is)
    (delta-lead ops c.self.inside.base c.self.inside.out c.in-Some.old c.args.len c.requires.some
    (subst (λ l. IsBounded (with_lead c.args.len l)) (sym c.self.view_is) c.requires.bounded) c.self.invariant.0 first) in
    elim c.if-self-ne0.branch [
      | then-self-ne0 w ↦
          subst (λ d. IsDelta d.ops (d.base - c.in-Some.old + c.args.len) (d.out - c.in-Some.old + c.args.len) × (d.lead ≡ lead_units d.ops))
          (sym w.self-inside-is) (
            delta,
            subst (λ (l : List Operation). c.args.len ≡ lead_units l) (sym is)
                (lead-longer ops c.in-Some.old c.args.len first (λ e. w.if-self-ne0.true (c.self.invariant.1 ∙ e))),
          )
      | else-self-ne0 w ↦
          subst (λ d. IsDelta d.ops (d.base - c.in-Some.old + c.args.len) (d.out - c.in-Some.old + c.args.len) × (d.lead ≡ lead_units d.ops))
          (sym w.self-inside-is) (
            delta,
            w.if-self-ne0.false ∙ subst (λ (l : List Operation). 0 ≡ lead_units l) (sym is)
                (lead-other ops c.in-Some.old c.args.len first c.self.invariant.0.normal (sym c.self.invariant.1 ∙ w.if-self-ne0.false)),
          )
    ]

pub returns-after-self-ne0-clause-normal : goal.returns-after-self-ne0-clause-normal
returns-after-self-ne0-clause-normal c = (invariant_of-self-in-Some c).0.normal
