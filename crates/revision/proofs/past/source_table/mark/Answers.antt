use Rattle.std.proofs.Common.{ℕ, List, ◌++◌, ◌∷◌, [], sym, ap, ◌∙◌}
use Rattle.std.proofs.lemmas.Bool.{false≢true}
use Rattle.revision.proofs.Noted.{but-added, but-there}
use Rattle.revision.proofs.past.source_table.mark.Goals as goal

pub returns-in_ok-push-clause-ok : goal.returns-in_ok-push-clause-ok
returns-in_ok-push-clause-ok c =
    but-added c.args.source.now c.args.changed.now.items c.push.new.self.items c.args.accepted.now c.args.ahead.now
    (c.in_ok-push.ensures.items ∙ ap (λ (n : List ℕ). c.args.changed.now.items ++ n ∷ []) c.in_ok-source.ensures.ok) c.requires

pub returns-else-is_same-clause-ok : goal.returns-else-is_same-clause-ok
returns-else-is_same-clause-ok c =
    but-there c.args.source.now c.args.changed.now.items c.args.accepted.now c.args.ahead.now c.requires
    (λ same. false≢true (c.if-is_same.ensures.1 (c.see_near.ensures.window ∙ (same ∙ sym c.see_near-2.ensures.window))))
