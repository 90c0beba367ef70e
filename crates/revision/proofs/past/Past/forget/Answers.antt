use Rattle.std.proofs.Common.{[], List, sym, ap, ap₂, subst, ◌∙◌}
use Rattle.delta.specs.Operation.{Operation}
use Rattle.revision.specs.declared.rule.taker.Taker.{Taker}
use Rattle.revision.specs.Past.{Parts, Prepared, AreParts, seen}
use Rattle.revision.specs.steps.PastView.{parts_of}
use Rattle.revision.proofs.Parts.{forget_is, forget_are}
use Rattle.revision.proofs.past.Past.forget.Goals as goal

pub invariant_of-self : goal.invariant_of-self
invariant_of-self c =
    let parts : Parts = parts_of c.self.inside in
    subst AreParts
    (ap₂ (λ (t : List Taker) (d : List (List Operation)). record parts { takers = t; deltas = d }) (sym c.truncate.ensures.items) (sym c.truncate-2.ensures.items))
    (forget_are parts c.self.invariant)

pub returns : goal.returns
returns c =
    let parts : Parts = parts_of c.self.inside in
    ap₂ (λ (t : List Taker) (d : List (List Operation)). seen (record parts { takers = t; deltas = d })) c.truncate.ensures.items c.truncate-2.ensures.items
    ∙ (forget_is parts c.self.invariant ∙ ap (λ (p : Prepared). record p { next = [] }) c.self.view_is)
