use Rattle.document.proofs.Making.{undefined_empty, refused_empty}
use Rattle.document.proofs.document.Document.from_delta.Goals as goal

pub returns-in-Ok-clause-past_end : goal.returns-in-Ok-clause-past_end
returns-in-Ok-clause-past_end c =
    let past = rw c.empty-document.ensures at c.in-Ok.ensures.past_end in
    (λ e. cc, λ some. let refused = past.1 ((undefined_empty c.args.delta.now).1 some) in cc)

pub returns-in-Err-clause-past_end : goal.returns-in-Err-clause-past_end
returns-in-Err-clause-past_end c =
    let past = rw c.empty-document.ensures at c.in-Err.ensures.past_end in
    (λ e. (undefined_empty c.args.delta.now).0 (past.0 (cc)), λ some. let refused = past.1 ((undefined_empty c.args.delta.now).1 some) in cc)

pub returns-in-Err-clause-only : goal.returns-in-Err-clause-only
returns-in-Err-clause-only c =
    refused_empty c.args.delta.now c.facts.ensures.bounded c.in-Err.refusal (rw c.empty-document.ensures at c.in-Err.ensures.only)
