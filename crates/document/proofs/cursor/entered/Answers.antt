use Rattle.std.proofs.Common.{rules}
use Rattle.document.proofs.Chunked.{entered_first}
use Rattle.document.proofs.cursor.entered.Goals as goal

pub returns-then-not-is_empty-clause-same : goal.returns-then-not-is_empty-clause-same
returns-then-not-is_empty-clause-same c =
    (entered_first c.args.runs.now c.runs.result.now c.index-chunks-0.result c.args.chunks.now (search rules) (search rules) c.index-chunks-0.is c.runs.ensures.runs c.requires.chunks).0

pub returns-then-not-is_empty-clause-runs : goal.returns-then-not-is_empty-clause-runs
returns-then-not-is_empty-clause-runs c =
    (entered_first c.args.runs.now c.runs.result.now c.index-chunks-0.result c.args.chunks.now (search rules) (search rules) c.index-chunks-0.is c.runs.ensures.runs c.requires.chunks).1

pub returns-then-not-is_empty-clause-chunks : goal.returns-then-not-is_empty-clause-chunks
returns-then-not-is_empty-clause-chunks c =
    (entered_first c.args.runs.now c.runs.result.now c.index-chunks-0.result c.args.chunks.now (search rules) (search rules) c.index-chunks-0.is c.runs.ensures.runs c.requires.chunks).2
