use Rattle.std.proofs.Common.{◌≡◌, ◌+◌, ap, sym, subst, arith, true, rules}
use Rattle.std.specs.Prelude.{OnOk}
use Rattle.flusher.specs.Holding.{store_of}
use Rattle.turns.specs.Writing.{told_count}
use Rattle.sockets.specs.Attendance.{visits_of, IsAttended}
use Rattle.server_threads.specs.Connections.{EachHasServed}
use Rattle.server_threads.specs.Held.{HaveEnded}
use Rattle.server_threads.proofs.Served.{has_held}
use Rattle.server_threads.proofs.connections.hold_at.Goals as goal

-- the sessions have ended, and the desks that they left are tallied
pub returns-in-Ok-hold_beside-clause-held : goal.returns-in-Ok-hold_beside-clause-held
returns-in-Ok-hold_beside-clause-held g c =
    let both = c.in-Ok-hold_beside.both in
    let past = c.ending_of.result.0 in
    let closing = both.left.1 in
    let ended : HaveEnded (EachHasServed g.L.Life.start (visits_of both.left.0.attendance)) closing.told closing.ordered closing.tally.counted = search rules in
    has_held (EachHasServed g.L.Life.start (visits_of c.ending_of.result.1.attendance)) g.L.Life.start c.args.server.flusher c.in-Ok.both.0.flusher both.flusher
    closing.told closing.ordered past.ordered (told_count past.flusher) closing.tally.counted past.tally.counted both.written past.written (store_of past.flusher)
    c.in-Ok.ensures.flusher c.in-Ok.ensures.kept c.in-Ok-hold_beside.ensures.written c.ending_of.ensures.written c.ending_of.ensures.tallied
    (subst (λ h. HaveEnded (EachHasServed g.L.Life.start (visits_of h.attendance)) closing.told closing.ordered closing.tally.counted) (sym c.ending_of.ensures.answer) ended)

pub returns-in-Ok-hold_beside-clause-attended : goal.returns-in-Ok-hold_beside-clause-attended
returns-in-Ok-hold_beside-clause-attended g c =
    let heard = c.in-Ok-hold_beside.both.left.0 in
    let attended : IsAttended (g.N.Listen.arrivals c.args.listener) (g.N.Listen.arrivals heard.listener) heard.attendance = search rules in
    subst (λ h. IsAttended (g.N.Listen.arrivals c.args.listener) (g.N.Listen.arrivals h.listener) h.attendance) (sym c.ending_of.ensures.answer) attended

pub returns-in-Ok-hold_beside-clause-complete : goal.returns-in-Ok-hold_beside-clause-complete
returns-in-Ok-hold_beside-clause-complete g c =
    let heard = c.in-Ok-hold_beside.both.left.0 in
    let complete : OnOk heard.answer (heard.attendance.is_complete ≡ true) = search rules in
    subst (λ h. OnOk h.answer (h.attendance.is_complete ≡ true)) (sym c.ending_of.ensures.answer) complete

pub returns-in-Ok-hold_beside-clause-seats : goal.returns-in-Ok-hold_beside-clause-seats
returns-in-Ok-hold_beside-clause-seats g c =
    let all : c.in-Ok-hold_beside.both.left.1.tally.seats + 1 ≡ g.L.Ledger.parts = search rules in
    omega (arith, ap (λ t. t.seats) c.ending_of.ensures.seats, all)
