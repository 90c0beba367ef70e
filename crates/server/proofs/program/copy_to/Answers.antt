use Rattle.std.proofs.lemmas.Result.{on_ok_weaker}
use Rattle.server.proofs.Doing.{at-ok}
use Rattle.server.proofs.program.copy_to.Goals as goal

pub returns-clause-spared : goal.returns-clause-spared
returns-clause-spared g c = (c.copy-from.new.new, c.copy-from.ensures.any_moment.kept, c.close.ensures)

pub returns-clause-brought : goal.returns-clause-brought
returns-clause-brought g c =
    on_ok_weaker c.brought-done.result (λ well. (c.copy-from.new.new, at-ok well c.copy-from.ensures.brought, c.close.ensures)) c.brought-done.ensures

pub returns-clause-unwritten : goal.returns-clause-unwritten
returns-clause-unwritten g c = c.copy-from.ensures.old.time
