use Rattle.std.proofs.Common.{◌∙◌, sym, subst}
use Rattle.std.proofs.lemmas.Result.{on_ok_weaker}
use Rattle.std.specs.Io.KnownBytes.{Appends}
use Rattle.server.specs.Dump as spec
use Rattle.server.proofs.documents.dump_store.Goals as goal

pub returns-clause-dumped : goal.returns-clause-dumped
returns-clause-dumped g c =
    on_ok_weaker c.dump-done.result (λ appends honest state found.
    subst (λ s. Appends (g.O.Output.contents c.args.output.now) (g.O.Output.contents c.dump-done.new.output) (spec.dump_of s.documents))
    (c.state.ensures ∙ sym (c.in-Ok.ensures.opened.only_state (subst (λ d. g.D.Disk.honest d) c.close.ensures honest) state found)) appends) c.dump-done.ensures.dumped

pub returns-clause-printed : goal.returns-clause-printed
returns-clause-printed g c =
    on_ok_weaker c.dump-done.result (λ appends.
    record {
      store = c.in-Ok.store;
      opens = c.in-Ok.ensures.opened;
      device = c.in-Ok.ensures.device;
      closes = c.close.ensures;
      printed =
          subst (λ s. Appends (g.O.Output.contents c.args.output.now) (g.O.Output.contents c.dump-done.new.output) (spec.dump_of s.documents)) c.state.ensures
          appends;
    }) c.dump-done.ensures.dumped
