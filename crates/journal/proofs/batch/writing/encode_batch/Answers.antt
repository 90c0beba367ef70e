use Rattle.std.proofs.Common.{◌≡◌, ◌∙◌, ◌++◌, List, ℕ, [], length, ap, rules}
use Rattle.journal.specs.BatchSpelling.{batch}
use Rattle.journal.proofs.BatchWidths.{length-batch}
use Rattle.journal.proofs.batch.writing.encode_batch.Goals as goal

pub returns-clause-width : goal.returns-clause-width
returns-clause-width c =
    let empty : c.new-out.result.items ≡ [] = search rules in
    ap length (c.in_ok-put_batch.ensures.spelled ∙ ap (λ (l : List ℕ). l ++ batch c.args.batch.now) empty) ∙ length-batch c.args.batch.now
