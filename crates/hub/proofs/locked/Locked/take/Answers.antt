use Rattle.std.proofs.Common.{rules}
use Rattle.hub.proofs.Moving.{comes_off}
use Rattle.hub.proofs.locked.Locked.take.Goals as goal

-- the writer has taken what the board has, so the run comes next
pub returns-clause-next : goal.returns-clause-next
returns-clause-next g c =
    comes_off c.self.inside.board c.args.writer.now c.args.cap c.in_ok-run.run' c.take.new.self _ (search rules) c.in_ok-run.ensures.taken (search rules)
