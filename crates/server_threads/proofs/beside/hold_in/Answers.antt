use mir.Syntax.{named}
use denote.Param.{param}
use denote.Param.Send.{param_send, arg_send, recorded_send, struct_send, sendable}
use Rattle.std.proofs.Crossing.{crosses}
use Rattle.std.proofs.Common.{◌≡◌, sym, subst, rules}
use Rattle.std.specs.Prelude.{IfOk, IfErr}
use Rattle.turns.specs.Turning.{HasWritten}
use Rattle.server_threads.specs.Written.{IsStartedOver, StartedOverWrites}
use Rattle.server_threads.proofs.FlusherCrossing.{writing_send, written_send}
use Rattle.server_threads.proofs.Served.{any_run, as_started}
use Rattle.server_threads.proofs.beside.hold_in.Goals as goal

-- the thread that writes has the flusher, and shares the hub
pub spawn_with-spawned-requires-send-F : goal.spawn_with-spawned-requires-send-F
spawn_with-spawned-requires-send-F g c κs within =
    let writing = writing_send (record { mir = named 6; lft = κs.1.1.1.1.1.1.0 }) (param 8 g.row.D) (param 6 g.row.L) (param 7 g.row.R) (param 9 g.row.W) g.D.Disk g.L.Life g.L.Ledger c.type_bounds.send-D c.type_bounds.send-L c.type_bounds.sync-L c.type_bounds.sync-R c.type_bounds.sync-W in
    search (param_send, arg_send, recorded_send, struct_send) depth 8

-- and gives the flusher back
pub spawn_with-spawned-requires-send-T : goal.spawn_with-spawned-requires-send-T
spawn_with-spawned-requires-send-T g c κs within =
    let written = written_send (record { mir = named 6; lft = κs.1.1.1.1.1.1.0 }) (param 8 g.row.D) (param 6 g.row.L) (param 7 g.row.R) g.D.Disk g.L.Life g.L.Ledger c.type_bounds.send-D c.type_bounds.send-L c.type_bounds.sync-L c.type_bounds.sync-R in
    let writing = writing_send (record { mir = named 6; lft = κs.1.1.1.1.1.1.0 }) (param 8 g.row.D) (param 6 g.row.L) (param 7 g.row.R) (param 9 g.row.W) g.D.Disk g.L.Life g.L.Ledger c.type_bounds.send-D c.type_bounds.send-L c.type_bounds.sync-L c.type_bounds.sync-R c.type_bounds.sync-W in
    search (param_send, arg_send, sendable, crosses) depth 30 fits 20000

-- what it promises
pub spawn_with-spawned-requires-clause-keeps : goal.spawn_with-spawned-requires-clause-keeps
spawn_with-spawned-requires-clause-keeps g c κs within r ran =
    let wrote : IfOk r (λ w. HasWritten g.L.Life.start c.args.writing.flusher w.flusher w.answer) = search rules in
    let back : IfErr r (λ b. b.flusher ≡ c.args.writing.flusher) = search rules in
    any_run g.L.Life.start c.args.writing.flusher c.args.written_by.store.value (λ w. w.flusher) (λ w. w.answer) (λ b. b.flusher) r c.requires.started c.requires.held wrote back

-- the thread wrote
pub returns-in-Ok-join-clause-written : goal.returns-in-Ok-join-clause-written
returns-in-Ok-join-clause-written g c =
    let after = c.in-Ok-join.written in
    let over = subst (λ p. StartedOverWrites g.L.Life.start p.store.value after.flusher after.answer) c.in-Ok.ensures.ok c.in-Ok-join.ensures.0 in
    subst (λ f. HasWritten g.L.Life.start c.args.writing.flusher f c.both_of.result.written) (sym c.both_of.ensures.flusher)
    (subst (λ a. HasWritten g.L.Life.start c.args.writing.flusher after.flusher a) (sym c.both_of.ensures.written)
    (over c.args.writing.flusher c.requires.started (sym c.requires.held)))

-- or its flusher wrote here
pub returns-in-Err-join-clause-written : goal.returns-in-Err-join-clause-written
returns-in-Err-join-clause-written g c =
    let back = c.in-Err-join.writing.flusher in
    let begun = subst (λ p. IsStartedOver p.store.value back) c.in-Ok.ensures.ok c.in-Err-join.ensures.1 in
    subst (λ f. HasWritten g.L.Life.start c.args.writing.flusher f c.both_of-in-Err-join.result.written) (sym c.both_of-in-Err-join.ensures.flusher)
    (subst (λ a. HasWritten g.L.Life.start c.args.writing.flusher c.write.result.flusher a) (sym c.both_of-in-Err-join.ensures.written)
    (as_started g.L.Life.start back c.args.writing.flusher c.write.result.flusher c.args.written_by.store.value c.write.result.answer begun c.requires.started c.requires.held c.write.ensures))
