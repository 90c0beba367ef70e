use Rattle.std.proofs.Common.{◌∙◌, arith}
use Rattle.server_threads.proofs.Ended.{ends_at_hub, set_one}
use Rattle.server_threads.proofs.streams.serve_first.Goals as goal

-- the session was served at the one desk from its beginning
pub returns-clause-ends : goal.returns-clause-ends
returns-clause-ends g c = record {
  last = c.serve_session.new.desk;
  one = set_one c.args.desks.now.items c.serve_session.new.desk c.requires.one;
  session = ends_at_hub g.L.Life.start c.args.session.now c.serve_session.new.session c.index_mut.result.now c.serve_session.new.desk
      (g.I.Input.remaining c.args.input.now) (g.I.Input.remaining c.serve_session.new.input)
      (g.O.Output.contents c.args.output.now) (g.O.Output.contents c.serve_session.new.output)
      (g.I.Input.has_failed c.serve_session.new.input) (g.O.Output.has_failed c.serve_session.new.output)
      c.serve_session.result c.requires.session (c.index_mut.ensures.value ∙ c.requires.first 0 c.index_mut.result.now (omega (arith, c.requires.one)))
      c.serve_session.ensures.served c.serve_session.ensures.at_end c.serve_session.ensures.stopped c.serve_session.ensures.cause
      c.serve_session.ensures.read c.serve_session.ensures.sent c.serve_session.ensures.only;
}
