use Rattle.std.proofs.Common.{◌≡◌, ℕ, List, true, ◌∙◌, ◌∷◌, ◌++◌, [], ap, ap₂, sym, subst, arith}
use Rattle.std.specs.Prelude.{is_none}
use Rattle.revision.specs.Documents.{PreparedState}
use Rattle.revision.specs.Invariants.{IsState}
use Rattle.revision.specs.Past.{Content}
use Rattle.revision.specs.Pending.{PendingDocument, record_of}
use Rattle.revision.specs.State.{State, find, adopts, adopted}
use Rattle.revision.proofs.Keeping.{adopting_keeps, adopted-light, adopted-content, adopted-fresh}
use Rattle.revision.proofs.Room.{weight-some}
use Rattle.revision.proofs.past.state.State.adopt.Goals as goal

pub adopted-requires-clause-short : goal.adopted-requires-clause-short
adopted-requires-clause-short c =
    let units = c.args.document in
    let old = c.self.inside.documents.before in
    let may : adopts old c.args.name (record { units = units; live = c.args.live }) c.args.revision c.args.sources ≡ true =
    ap (λ (s : State). adopts s c.args.name (record { units = units; live = c.args.live }) c.args.revision c.args.sources) c.self.view_is ∙ sym c.may_adopt.ensures ∙ c.if-not-may_adopt.false in
    let light = adopted-light old c.args.name (record { units = units; live = c.args.live }) c.args.revision c.args.sources may in
    omega (arith, light, c.self.invariant.1.limits.weight, weight-some units)

pub adopted-requires-clause-content : goal.adopted-requires-clause-content
adopted-requires-clause-content c =
    let old = c.self.inside.documents.before in
    let content : Content = record { units = c.args.document; live = c.args.live } in
    let may : adopts old c.args.name content c.args.revision c.args.sources ≡ true =
    ap (λ (s : State). adopts s c.args.name content c.args.revision c.args.sources) c.self.view_is ∙ sym c.may_adopt.ensures ∙ c.if-not-may_adopt.false in
    adopted-content old c.args.name content c.args.revision c.args.sources may

pub adopt-requires-clause-new : goal.adopt-requires-clause-new
adopt-requires-clause-new c =
    let old = c.self.inside.documents.before in
    let content : Content = record { units = c.args.document; live = c.args.live } in
    let may : adopts old c.args.name content c.args.revision c.args.sources ≡ true =
    ap (λ (s : State). adopts s c.args.name content c.args.revision c.args.sources) c.self.view_is ∙ sym c.may_adopt.ensures ∙ c.if-not-may_adopt.false in
    subst (λ (s : State). is_none (find c.in_ok-made.made.name 0 s.documents) ≡ true) (sym c.self.invariant.0)
    (subst (λ (n : List ℕ). is_none (find n 0 old.documents) ≡ true) (sym (ap (λ (d : PendingDocument). d.name) c.in_ok-made.ensures.ok))
    (adopted-fresh old c.args.name content c.args.revision c.args.sources may))

pub invariant_of-self-2 : goal.invariant_of-self-2
invariant_of-self-2 c =
    let old = c.self.inside.documents in
    let content : Content = record { units = c.args.document; live = c.args.live } in
    let may : adopts old.before c.args.name content c.args.revision c.args.sources ≡ true =
    ap (λ (s : State). adopts s c.args.name content c.args.revision c.args.sources) c.self.view_is ∙ sym c.may_adopt.ensures ∙ c.if-not-may_adopt.false in
    let is : IsState (adopted old.before c.args.name content c.args.revision c.args.sources) =
    adopting_keeps old.before c.args.name content c.args.revision c.args.sources c.self.invariant.1 may in
    let after : c.accept.new.self.before ≡ adopted old.before c.args.name content c.args.revision c.args.sources
    = ap (λ (p : PreparedState). p.before) c.accept.ensures ∙ ap (λ (p : PreparedState). p.after) c.in_ok-adopt.ensures.ok
    ∙ ap₂ (λ (s : State) (d : PendingDocument). record s { documents = s.documents ++ record_of d ∷ [] }) c.self.invariant.0 c.in_ok-made.ensures.ok in
    (ap (λ (p : PreparedState). p.after) c.accept.ensures ∙ sym (ap (λ (p : PreparedState). p.before) c.accept.ensures), subst IsState (sym after) is)
