use Rattle.std.proofs.Common.{None, [], sym, subst, ◌∙◌}
use Rattle.revision.specs.Sources.{Table}
use Rattle.revision.specs.Past.{Prepared, with_steps}
use Rattle.revision.specs.Pending.{AreNextUnits, ComesOf}
use Rattle.revision.proofs.Following.{accepted_comes}
use Rattle.revision.proofs.past.doc_state.DocState.accept.Goals as goal

pub invariant_of-self : goal.invariant_of-self
invariant_of-self c =
    let inside = c.self.inside in
    let document = c.in-Some.document in
    let after = subst (AreNextUnits inside.past) (sym c.take.ensures.value ∙ c.in-Some.is) c.self.invariant.after in
    let done : Prepared = record { past = with_steps c.keep.result inside.past.past inside.past.next; next = [] } in
    subst (λ (p : Prepared). ComesOf p document c.take.new.self c.accept-2.new.self) (sym c.accept.ensures)
    (subst (λ next. ComesOf done document next c.accept-2.new.self) (sym c.take.ensures.after)
    (subst (λ (t : Table). ComesOf done document None t) (sym c.accept-2.ensures)
    (accepted_comes c.keep.result inside.past document inside.sources.prepared after c.self.invariant.prepared)))
