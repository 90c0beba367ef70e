use Rattle.std.proofs.lemmas.Result.{on_ok_weaker}
use Rattle.server.proofs.Serving.{listened-for, listened-well}
use Rattle.server.proofs.program.listen.Goals as goal

pub returns-clause-serves : goal.returns-clause-serves
returns-clause-serves g c = listened-for c.in_ok-store.ensures.good c.in-Ok.ensures.good c.serve_at-served.ensures

-- where it was served well
pub returns-clause-served : goal.returns-clause-served
returns-clause-served g c =
    on_ok_weaker c.ended.result (λ well. listened-well well c.in_ok-store.ensures.good c.in-Ok.ensures.good c.serve_at-served.ensures) c.ended.ensures
