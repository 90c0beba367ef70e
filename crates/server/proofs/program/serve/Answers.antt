use Rattle.std.proofs.lemmas.Result.{on_ok_weaker}
use Rattle.server.proofs.Serving.{streamed, serves-alone, served-alone}
use Rattle.server.proofs.program.serve.Goals as goal

pub returns-in-Ok-clause-serves : goal.returns-in-Ok-clause-serves
returns-in-Ok-clause-serves g c =
    serves-alone c.in-None.is (streamed c.in-Ok.ensures.good c.in-Ok.ensures.from c.serve_alone-store.ensures c.close.ensures c.close-in-None.ensures)

-- where the session was answered well
pub returns-in-Ok-clause-served : goal.returns-in-Ok-clause-served
returns-in-Ok-clause-served g c =
    on_ok_weaker c.as_ended.result
    (λ well. served-alone well c.in-None.is (streamed c.in-Ok.ensures.good c.in-Ok.ensures.from c.serve_alone-store.ensures c.close.ensures c.close-in-None.ensures))
    c.as_ended.ensures
