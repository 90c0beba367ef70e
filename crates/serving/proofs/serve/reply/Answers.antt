use Rattle.std.proofs.Common.{◌≡◌, List, ℕ, [], subst, sym, ◌∙◌}
use Rattle.std.proofs.lemmas.Bool.{eqb-true}
use Rattle.std.proofs.lemmas.List.{nil_from_length}
use Rattle.session.specs.Replies.{Feeds}
use Rattle.serving.proofs.Answering.{feeds_nothing}
use Rattle.serving.proofs.serve.reply.Goals as goal

-- nothing came
pub returns-then-is_empty-clause-fed : goal.returns-then-is_empty-clause-fed
returns-then-is_empty-clause-fed g c =
    let none : c.args.piece.now ≡ [] = nil_from_length _ (eqb-true _ _ (sym c.is_empty.ensures ∙ c.if-is_empty.true)) in
    subst (λ (l : List ℕ). Feeds g.K.Desk.does c.args.session.now l c.args.session.now c.args.desk.now c.args.desk.now (g.O.Output.contents c.args.output.now) (g.O.Output.contents c.args.output.now))
    (sym none) (feeds_nothing g.K.Desk.does c.args.session.now c.args.desk.now (g.O.Output.contents c.args.output.now))
