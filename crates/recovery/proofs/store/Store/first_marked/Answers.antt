use Rattle.std.proofs.Common.{◌≤◌, ◌∙◌, List, sym, ap, subst}
use Rattle.recovery.specs.declared.marks.Mark.{Mark}
use Rattle.recovery.specs.Marks.{greatest_marked}
use Rattle.recovery.specs.Open.{known_marks}
use Rattle.attributes.proofs.CallerLemmas.{IfSome-map}
use Rattle.recovery.proofs.store.Store.first_marked.Goals as goal

pub returns-clause-some : goal.returns-clause-some
returns-clause-some g c =
    IfSome-map (λ document. 1 ≤ greatest_marked c.args.segment document c.all.result.now) (λ document. 1 ≤ greatest_marked c.args.segment document (known_marks c.args.self.now)) c.first_of.result
    (λ document has. subst (λ (l : List Mark). 1 ≤ greatest_marked c.args.segment document l) c.all.ensures has) c.first_of.ensures.some

pub returns-clause-none : goal.returns-clause-none
returns-clause-none g c is document =
    ap (λ (l : List Mark). greatest_marked c.args.segment document l) (sym c.all.ensures) ∙ c.first_of.ensures.none is document
