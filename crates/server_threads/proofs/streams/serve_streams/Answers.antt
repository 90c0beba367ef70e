use Rattle.std.proofs.Common.{sym, subst}
use Rattle.std.specs.Prelude.{is_ok}
use Rattle.recovery.specs.Open.{state_of}
use Rattle.server_threads.specs.Served.{WasServed}
use Rattle.server_threads.specs.Streams.{ByOne, EndsAtHub}
use Rattle.server_threads.proofs.Ended.{none_asked}
use Rattle.server_threads.proofs.streams.serve_streams.Goals as goal

-- out of memory nothing was asked
pub returns-in_default-clause-served : goal.returns-in_default-clause-served
returns-in_default-clause-served g c =
    subst (λ b. WasServed (ByOne (EndsAtHub b.served (state_of c.args.store) (g.I.Input.remaining c.args.input) (g.I.Input.remaining b.input)
    (g.O.Output.contents c.args.output) (g.O.Output.contents b.output) (g.I.Input.has_failed b.input) (g.O.Output.has_failed b.output))) (is_ok b.served) c.args.store b.store)
    (sym c.back.ensures)
    (none_asked (state_of c.args.store) (g.I.Input.remaining c.args.input) (g.O.Output.contents c.args.output) (g.I.Input.has_failed c.args.input) (g.O.Output.has_failed c.args.output) c.args.store)
