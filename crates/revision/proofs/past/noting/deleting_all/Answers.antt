use Rattle.std.proofs.Common.{◌≡◌, ◌++◌, ◌∷◌, [], List, ap, ap₂, ◌∙◌}
use Rattle.delta.specs.Operation.{Operation, delete}
use Rattle.delta.specs.Gaps.{counted}
use Rattle.delta.specs.Normal.{built, nf}
use Rattle.revision.proofs.DeletingAll.{all-accepted, all-deleted}
use Rattle.revision.proofs.past.noting.deleting_all.Goals as goal
use Rattle.revision.proofs.past.noting.deleting_all.Goals.{In-Ok}

built_so : (c : In-Ok) → c.push.new.self ≡ built ([] ++ delete c.len16.result ∷ [])
built_so c = c.in-Ok.ensures.ok ∙ ap₂ (λ (b : List Operation) (op : Operation). built (b ++ op ∷ [])) c.new-made.ensures c.delete.ensures

pub returns-in-Ok-clause-accepted : goal.returns-in-Ok-clause-accepted
returns-in-Ok-clause-accepted c =
    all-accepted c.args.document.now c.len16.result c.len16.ensures.len c.finish.result
    (c.finish.ensures ∙ ap (λ (ops : List Operation). nf (counted ops)) (built_so (goal.at.returns-in-Ok-clause-accepted c).In-Ok))

pub returns-in-Ok-clause-empty : goal.returns-in-Ok-clause-empty
returns-in-Ok-clause-empty c =
    all-deleted c.args.document.now c.len16.result c.len16.ensures.len c.finish.result
    (c.finish.ensures ∙ ap (λ (ops : List Operation). nf (counted ops)) (built_so (goal.at.returns-in-Ok-clause-empty c).In-Ok))
