use Rattle.std.proofs.lemmas.Result.{on_ok_weaker}
use Rattle.server.proofs.inspected.tell_of.Goals as goal

pub returns-clause-told : goal.returns-clause-told
returns-clause-told g c =
    on_ok_weaker c.tell-done.result (λ appends.
    record {
      store = c.in-Ok.store;
      opens = c.in-Ok.ensures.opened;
      device = c.in-Ok.ensures.device;
      closes = c.close.ensures;
      printed = appends;
    }) c.tell-done.ensures
