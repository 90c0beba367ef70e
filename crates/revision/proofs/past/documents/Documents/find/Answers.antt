use Rattle.std.proofs.Common.{sym, ap, ◌∙◌, arith}
use Rattle.revision.specs.Documents.{PreparedState}
use Rattle.revision.specs.State.{find}
use Rattle.revision.proofs.Indexed.{found-within, found-past, found-none}
use Rattle.revision.proofs.past.documents.Documents.find.Goals as goal

pub returns-else-number-self : goal.returns-else-number-self
returns-else-number-self c =
    sym (found-within c.args.name.now 0 c.in-Some.number c.in-Some.number c.self.inside.count c.self.inside.documents.items c.index.result.now
    (sym (c.self.invariant.index c.args.name.now) ∙ sym c.number.ensures ∙ c.in-Some.is) (omega arith) c.if-number-self.false c.index.ensures)
    ∙ ap (λ (p : PreparedState). find c.args.name.now 0 p.before.documents) c.self.view_is

pub returns-then-number-self : goal.returns-then-number-self
returns-then-number-self c =
    sym (found-past c.args.name.now 0 c.in-Some.number c.self.inside.count c.self.inside.documents.items
    (sym (c.self.invariant.index c.args.name.now) ∙ sym c.number.ensures ∙ c.in-Some.is) (omega (arith, c.if-number-self.true)))
    ∙ ap (λ (p : PreparedState). find c.args.name.now 0 p.before.documents) c.self.view_is

pub returns-in-None : goal.returns-in-None
returns-in-None c =
    sym (found-none c.args.name.now 0 c.self.inside.count c.self.inside.documents.items
    (sym (c.self.invariant.index c.args.name.now) ∙ sym c.number.ensures ∙ c.in-None.is))
    ∙ ap (λ (p : PreparedState). find c.args.name.now 0 p.before.documents) c.self.view_is
