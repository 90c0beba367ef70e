use Rattle.std.proofs.Common.{◌≡◌, ◌+◌, ◌≤◌, ◌<◌, ◌^◌, List, [], ◌∷◌, ◌++◌, length, true, sym, ap, ap₂, subst, ◌∙◌}
use Rattle.delta.specs.Operation.{Operation}
use Rattle.delta.specs.Gaps.{counted, apply}
use Rattle.document.specs.Outcome.{IsAccepted}
use Rattle.revision.specs.declared.rule.taker.Taker.{Taker}
use Rattle.revision.specs.Past.{Parts, Prepared, Next, AreParts, seen, suits, units_after, next_by, prepared_content, prepared_units, prepared_revision}
use Rattle.revision.specs.steps.PastView.{parts_of}
use Rattle.revision.proofs.Parts.{prepare_is, prepare_are}
use Rattle.revision.proofs.past.Past.prepare.Goals as goal

pub invariant_of-self-2 : goal.invariant_of-self-2
invariant_of-self-2 c =
    let parts : Parts = parts_of c.self.inside in
    let taker : Taker = record { source = c.args.source; number = c.args.number; step = c.args.step; named = c.push_both-arg-3-1.given.0 } in
    let same : c.args.self.now ≡ seen parts = sym c.self.view_is in
    subst AreParts
    (ap₂ (λ (t : List Taker) (d : List (List Operation)). record parts { takers = t; deltas = d }) (sym c.in_ok-push_both.ensures.takers) (sym c.in_ok-push_both.ensures.deltas))
    (prepare_are parts c.self.invariant taker c.args.delta (subst (λ (p : Prepared). suits (prepared_content p).live c.args.step ≡ true) same c.requires.suits)
    (subst (λ (p : Prepared). apply (prepared_units p) (counted c.args.delta) ≡ units_after (prepared_units p) c.args.step c.args.delta) same c.requires.leads) (subst (λ (p : Prepared). IsAccepted (prepared_units p) (counted c.args.delta)) same c.requires.accepted)
    (subst (λ (p : Prepared). length (apply (prepared_units p) (counted c.args.delta)) ≤ 2 ^ 29) same c.requires.short)
    (subst (λ (p : Prepared). prepared_revision p + 1 < 2 ^ 53) same c.requires.revision))

pub returns-clause-ok : goal.returns-clause-ok
returns-clause-ok c =
    let parts : Parts = parts_of c.self.inside in
    let taker : Taker = record { source = c.args.source; number = c.args.number; step = c.args.step; named = c.push_both-arg-3-1.given.0 } in
    let one : List Next = next_by c.args.source c.args.number c.args.step c.args.delta ∷ [] in
    ap₂ (λ (t : List Taker) (d : List (List Operation)). seen (record parts { takers = t; deltas = d })) c.in_ok-push_both.ensures.takers c.in_ok-push_both.ensures.deltas
    ∙ (prepare_is parts c.self.invariant taker c.args.delta ∙ ap (λ (p : Prepared). record p { next = p.next ++ one }) c.self.view_is)
