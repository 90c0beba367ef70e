use Rattle.std.proofs.Common.{◌≡◌, ◌+◌, length, sym, ap, subst, arith, rules}
use Rattle.std.specs.Prelude.{IfErr}
use Rattle.flusher.specs.Holding.{store_of}
use Rattle.turns.specs.Writing.{told_count}
use Rattle.serving.specs.declared.failure.ServingError.TheVariants.{Stream}
use Rattle.server_threads.specs.Held.{HaveEnded}
use Rattle.server_threads.specs.Streams.{ByOne, EndsAtHub}
use Rattle.server_threads.proofs.Served.{has_held}
use Rattle.server_threads.proofs.streams.hold_at.Goals as goal

-- there is one desk
pub hold_beside-requires-clause-callable : goal.hold_beside-requires-clause-callable
hold_beside-requires-clause-callable g c =
    let seated = c.in-Ok-make_ready.ensures.seated in
    let one : length c.in-Ok-make_ready.both.1.desks.items ≡ 1 = omega (arith, seated.some, seated.all, c.requires.one) in
    search rules

-- the session has ended, and the desk that it left is tallied
pub returns-in-Ok-hold_beside-clause-held : goal.returns-in-Ok-hold_beside-clause-held
returns-in-Ok-hold_beside-clause-held g c =
    let both = c.in-Ok-hold_beside.both in
    let past = c.ending_of.result.0 in
    let closing = both.left.1 in
    let ended : HaveEnded (ByOne (EndsAtHub both.left.0.1 g.L.Life.start (g.I.Input.remaining c.args.streams.input) (g.I.Input.remaining both.left.0.0.input)
    (g.O.Output.contents c.args.streams.output) (g.O.Output.contents both.left.0.0.output) (g.I.Input.has_failed both.left.0.0.input) (g.O.Output.has_failed both.left.0.0.output)))
    closing.told closing.ordered closing.tally.counted = search rules in
    has_held (ByOne (EndsAtHub c.ending_of.result.1.1 g.L.Life.start (g.I.Input.remaining c.args.streams.input) (g.I.Input.remaining c.ending_of.result.1.0.input)
    (g.O.Output.contents c.args.streams.output) (g.O.Output.contents c.ending_of.result.1.0.output) (g.I.Input.has_failed c.ending_of.result.1.0.input) (g.O.Output.has_failed c.ending_of.result.1.0.output))) g.L.Life.start c.args.server.flusher c.in-Ok-make_ready.both.0.flusher both.flusher
    closing.told closing.ordered past.ordered (told_count past.flusher) closing.tally.counted past.tally.counted both.written past.written (store_of past.flusher)
    c.in-Ok-make_ready.ensures.flusher c.in-Ok-make_ready.ensures.kept c.in-Ok-hold_beside.ensures.written c.ending_of.ensures.written c.ending_of.ensures.tallied
    (subst (λ a. HaveEnded (ByOne (EndsAtHub a.1 g.L.Life.start (g.I.Input.remaining c.args.streams.input) (g.I.Input.remaining a.0.input)
    (g.O.Output.contents c.args.streams.output) (g.O.Output.contents a.0.output) (g.I.Input.has_failed a.0.input) (g.O.Output.has_failed a.0.output)))
    closing.told closing.ordered closing.tally.counted) (sym c.ending_of.ensures.answer) ended)

pub returns-in-Ok-hold_beside-clause-only : goal.returns-in-Ok-hold_beside-clause-only
returns-in-Ok-hold_beside-clause-only g c =
    let only : IfErr c.in-Ok-hold_beside.both.left.0.1 (λ e. e ≡ Stream) = search rules in
    subst (λ a. IfErr a.1 (λ e. e ≡ Stream)) (sym c.ending_of.ensures.answer) only

pub returns-in-Ok-hold_beside-clause-seats : goal.returns-in-Ok-hold_beside-clause-seats
returns-in-Ok-hold_beside-clause-seats g c =
    let all : c.in-Ok-hold_beside.both.left.1.tally.seats + 1 ≡ g.L.Ledger.parts = search rules in
    omega (arith, ap (λ t. t.seats) c.ending_of.ensures.seats, all)
