use Rattle.std.proofs.Common.{ap, sym}
use Rattle.std.proofs.lemmas.Result.{on_ok_weaker}
use Rattle.server.proofs.Doing.{was-done, checked-by}
use Rattle.server.proofs.inspected.check_file.Goals as goal

-- the output that comes back is that within the stream
pub returns-in-Ok-check-clause-kept : goal.returns-in-Ok-check-clause-kept
returns-in-Ok-check-clause-kept g c =
    let checked = c.in-Ok-check.checked in
    on_ok_weaker c.as_ended.result
    (λ well. was-done c.in-Ok.disk checked.disk c.in-Ok.ensures.untouched c.in-Ok.ensures.good
    (checked-by checked well (ap g.O.Write.contents c.new-stream.ensures.writer) (ap g.O.Write.contents (sym c.into_writer.ensures))
    c.in-Ok-check.ensures.sound c.in-Ok-check.ensures.time c.print_counts-printed.ensures.printed)
    c.close.ensures)
    c.as_ended.ensures
