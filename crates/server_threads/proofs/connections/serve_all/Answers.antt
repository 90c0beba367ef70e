use mir.Syntax.{named}
use denote.Param.{param}
use denote.Exit.{yes}
use denote.Param.Send.{param_send, arg_send}
use Rattle.std.proofs.Common.{◌≡◌, ◌∙◌, length, ap, sym, subst}
use Rattle.std.specs.Prelude.{All}
use Rattle.sockets.specs.Attendance.{visits_of, IsAttended}
use Rattle.server_threads.specs.Answers.{first_desk}
use Rattle.server_threads.specs.Connections.{EachHasServed}
use Rattle.server_threads.proofs.Crossing.{desk_send}
use Rattle.server_threads.proofs.Attending.{each_served, as_many, none_came, unserved}
use Rattle.server_threads.proofs.connections.serve_all.Goals as goal

pub serve_desks-requires-send-K : goal.serve_desks-requires-send-K
serve_desks-requires-send-K g c κs within =
    param_send 0 _ (arg_send _ yes _
    (desk_send (record { mir = named 2; lft = κs.1.1.0 }) (param 3 g.row.D) (param 0 g.row.L) (param 1 g.row.R) g.L.Life g.L.Ledger
    c.type_bounds.send-L c.type_bounds.sync-L c.type_bounds.sync-R))

pub returns-in-Ok-clause-served : goal.returns-in-Ok-clause-served
returns-in-Ok-clause-served g c =
    let after = c.in-Ok.attended in
    let served = c.in-Ok.ensures.served in
    let each : EachHasServed g.L.Life.start (visits_of after.attendance) after.desks.items =
    (served.0, each_served g.L.Life.start served.0 c.args.desks.items (visits_of after.attendance) after.desks.items served.1 c.requires.first) in
    subst (λ a. EachHasServed g.L.Life.start (visits_of a) c.heard_of.result.1.items) (sym c.heard_of.ensures.attendance)
    (subst (λ d. EachHasServed g.L.Life.start (visits_of after.attendance) d.items) (sym c.heard_of.ensures.desks) each)

pub returns-in-Ok-clause-attended : goal.returns-in-Ok-clause-attended
returns-in-Ok-clause-attended g c =
    subst (λ a. IsAttended (g.N.Listen.arrivals c.args.listener) (g.N.Listen.arrivals c.heard_of.result.0.listener) a) (sym c.heard_of.ensures.attendance)
    (subst (λ l. IsAttended (g.N.Listen.arrivals c.args.listener) (g.N.Listen.arrivals l) c.in-Ok.attended.attendance) (sym c.heard_of.ensures.listener)
    c.in-Ok.ensures.attended)

pub returns-in-Ok-clause-as_many : goal.returns-in-Ok-clause-as_many
returns-in-Ok-clause-as_many g c =
    let after = c.in-Ok.attended in
    let served = c.in-Ok.ensures.served in
    ap (λ d. length d.items) c.heard_of.ensures.desks
    ∙ as_many g.L.Life.start served.0 c.args.desks.items (visits_of after.attendance) after.desks.items served.1

-- nobody was served
pub returns-clause-served : goal.returns-clause-served
returns-clause-served g c =
    unserved g.L.Life.start (visits_of c.of_nobody.result) c.in-Err.failed.value.0.items c.of_nobody.ensures.0
    (subst (λ v. All (λ desk. desk ≡ first_desk) v.0.items) (sym c.in-Err.ensures.refused) c.requires.first)

pub returns-clause-attended : goal.returns-clause-attended
returns-clause-attended g c = none_came _ _ c.of_nobody.result c.of_nobody.ensures
