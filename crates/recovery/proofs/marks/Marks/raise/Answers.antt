use Rattle.std.proofs.Common.{◌≡◌, ◌∷◌, [], ◌++◌, List, sym, subst, rules}
use Rattle.recovery.specs.declared.marks.Mark.{Mark}
use Rattle.recovery.specs.Marks.{Raised, marks_of}
use Rattle.recovery.proofs.Marking.{raised_set, raised_push}
use Rattle.recovery.proofs.marks.Marks.raise.Goals as goal

pub returns-in-Some-clause-raised : goal.returns-in-Some-clause-raised
returns-in-Some-clause-raised c =
    let there = c.in-Some.ensures.there in
    let own = c.in-Some.ensures.own in
    raised_set c.args.segment c.args.document c.args.revision (marks_of c.args.self.now) c.in-Some.place c.in-Some.mark there.0 there.1 own.0 own.1 c.max.result (search rules)

pub returns-clause-raised : goal.returns-clause-raised
returns-clause-raised c =
    let mark : Mark = record { segment = c.args.segment; document = c.args.document; revision = c.args.revision } in
    let pushed : c.push.new.self.items ≡ marks_of c.args.self.now ++ mark ∷ [] = search rules in
    subst (λ (m : List Mark). Raised c.args.segment c.args.document c.args.revision (marks_of c.args.self.now) m) (sym pushed)
    (raised_push c.args.segment c.args.document c.args.revision (marks_of c.args.self.now))
