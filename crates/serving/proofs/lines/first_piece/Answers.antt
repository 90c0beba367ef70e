use Rattle.serving.proofs.Cutting.{of_line, within_line}
use Rattle.serving.proofs.lines.first_piece.Goals as goal

pub returns-then-count-bytes-clause-of_line : goal.returns-then-count-bytes-clause-of_line
returns-then-count-bytes-clause-of_line c =
    of_line c.args.bytes.now c.text_length-count.result c.text_length-count.ensures.inner c.if-count-bytes.true (c.text_length-count.ensures.end c.if-count-bytes.true)

pub returns-else-count-bytes-clause-of_line : goal.returns-else-count-bytes-clause-of_line
returns-else-count-bytes-clause-of_line c = within_line c.args.bytes.now c.text_length-count.result c.text_length-count.ensures.inner
