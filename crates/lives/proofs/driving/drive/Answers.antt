use Rattle.std.proofs.Common.{[], length, take, arith, sym, ◌∙◌, append-nil}
use Rattle.flusher.specs.Flushers.{cap_of}
use Rattle.flusher.specs.Holding.{store_of}
use Rattle.flusher.specs.Standing.{standing}
use Rattle.lives.specs.Driving.{between, Stops}
use Rattle.lives.proofs.Answering.{first_any_moment, first_now, answered_held, all_later}
use Rattle.recovery.specs.Open.{has_failed}
use Rattle.lives.proofs.Refusing.{stop_fails, stop_none, stop_some}
use Rattle.lives.proofs.driving.drive.Goals as goal

pub returns-clause-any_moment : goal.returns-clause-any_moment
returns-clause-any_moment g c is_open =
    first_any_moment g.L.Life.start (standing c.args.board.now c.args.flusher.now) (standing c.drive_all-ended.new.board c.drive_all-ended.new.flusher) c.drive_all-ended.ensures.goes
    c.requires.works is_open

pub returns-clause-holds : goal.returns-clause-holds
returns-clause-holds g c is_open =
    first_now g.L.Life.start (standing c.args.board.now c.args.flusher.now) (standing c.drive_all-ended.new.board c.drive_all-ended.new.flusher) c.drive_all-ended.ensures.goes
    c.requires.works is_open

pub returns-clause-acknowledged : goal.returns-clause-acknowledged
returns-clause-acknowledged g c =
    let a = c.drive_all-ended.ensures.answered in
    let tickets = c.drive_all-ended.new.tickets.items in
    let answers = c.drive_all-ended.new.answers.items in
    let made = take (length answers) c.args.calls.now in
    all_later a.last.board.progress.settled c.drive_all-ended.new.board.progress.settled a.last.tickets tickets [] made answers (omega (arith, a.settled)) (a.tickets ∙ sym (append-nil a.last.tickets))
    (answered_held (cap_of g.L.Life.start) (between c.args.board.now [] c.args.flusher.now) made answers a.last a.answered)

pub returns-clause-whole : goal.returns-clause-whole
returns-clause-whole g c = stop_none c.drive_all-ended.result c.stopped_by.result c.stopped_by.ensures c.drive_all-ended.ensures.whole

pub returns-clause-stops : goal.returns-clause-stops
returns-clause-stops g c =
    stop_some (λ r. Stops (cap_of g.L.Life.start) (between c.args.board.now [] c.args.flusher.now) c.args.calls.now c.drive_all-ended.new.answers.items r c.drive_all-ended.new.flusher) c.drive_all-ended.result c.stopped_by.result
    c.stopped_by.ensures c.drive_all-ended.ensures.stops

pub returns-clause-fails : goal.returns-clause-fails
returns-clause-fails g c =
    stop_fails (has_failed (store_of c.drive_all-ended.new.flusher)) c.drive_all-ended.result c.stopped_by.result c.stopped_by.ensures c.drive_all-ended.ensures.fails

pub returns-clause-calm : goal.returns-clause-calm
returns-clause-calm g c = stop_none c.drive_all-ended.result c.stopped_by.result c.stopped_by.ensures c.drive_all-ended.ensures.calm

pub returns-clause-works : goal.returns-clause-works
returns-clause-works g c = stop_none c.drive_all-ended.result c.stopped_by.result c.stopped_by.ensures c.drive_all-ended.ensures.works
