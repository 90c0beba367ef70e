use Rattle.recovery.proofs.Gathered.{count_set}
use Rattle.recovery.proofs.freeing.raise_at.Goals as goal

pub returns-then-document-marked-clause-few : goal.returns-then-document-marked-clause-few
returns-then-document-marked-clause-few c = count_set c.args.marked.now c.args.document c.max.result
