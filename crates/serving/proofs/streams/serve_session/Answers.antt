use Rattle.std.proofs.Common.{inl, inr, []}
use Rattle.serving.specs.LinesView.{left_of}
use Rattle.serving.specs.Serving.{AreRead}
use Rattle.serving.proofs.Answering.{on_err, on_ok_too, taken_kept}
use Rattle.serving.proofs.OfLines.{ended_badly, serves_to_end, stops_before_end}
use Rattle.serving.proofs.streams.serve_session.Goals as goal

-- all of the input was served, and sent on or not
pub returns-in-Ok-Ok-clause-served : goal.returns-in-Ok-Ok-clause-served
returns-in-Ok-Ok-clause-served g c =
    let remaining = g.I.Input.remaining in
    let contents = g.O.Output.contents in
    on_ok_too c.flush.result
    (taken_kept g.K.Desk.does (AreRead [] (remaining c.args.input.now) (remaining c.serve_pieces.new.input)) c.args.session.now c.serve_pieces.new.session
    c.args.desk.now c.serve_pieces.new.desk (contents c.args.output.now) (contents c.serve_pieces.new.output) (contents c.flush.new.output)
    (serves_to_end left_of remaining g.I.Input.has_failed g.K.Desk.does c.in-Ok-Ok.field-0 c.new-lines.result c.serve_pieces.new.pieces c.args.input.now
    c.serve_pieces.new.input c.args.session.now c.serve_pieces.new.session c.args.desk.now c.serve_pieces.new.desk (contents c.args.output.now)
    (contents c.serve_pieces.new.output) c.new-lines.ensures c.in-Ok-Ok.ensures.answered) c.flush.ensures.kept)

pub returns-in-Ok-Ok-clause-stopped : goal.returns-in-Ok-Ok-clause-stopped
returns-in-Ok-Ok-clause-stopped g c =
    let remaining = g.I.Input.remaining in
    let contents = g.O.Output.contents in
    on_err c.flush.result
    (inl (
      c.serve_pieces.new.session,
      taken_kept g.K.Desk.does (AreRead [] (remaining c.args.input.now) (remaining c.serve_pieces.new.input)) c.args.session.now c.serve_pieces.new.session
          c.args.desk.now c.serve_pieces.new.desk (contents c.args.output.now) (contents c.serve_pieces.new.output) (contents c.flush.new.output)
          (serves_to_end left_of remaining g.I.Input.has_failed g.K.Desk.does c.in-Ok-Ok.field-0 c.new-lines.result c.serve_pieces.new.pieces c.args.input.now
          c.serve_pieces.new.input c.args.session.now c.serve_pieces.new.session c.args.desk.now c.serve_pieces.new.desk (contents c.args.output.now)
          (contents c.serve_pieces.new.output) c.new-lines.ensures c.in-Ok-Ok.ensures.answered) c.flush.ensures.kept,
    ))

-- a read failed
pub returns-in-Ok-Err-clause-stopped : goal.returns-in-Ok-Err-clause-stopped
returns-in-Ok-Err-clause-stopped g c =
    let contents = g.O.Output.contents in
    inl (
      c.serve_pieces.new.session,
      serves_to_end left_of g.I.Input.remaining g.I.Input.has_failed g.K.Desk.does c.in-Ok-Err.field-0 c.new-lines.result c.serve_pieces.new.pieces c.args.input.now
          c.serve_pieces.new.input c.args.session.now c.serve_pieces.new.session c.args.desk.now c.serve_pieces.new.desk (contents c.args.output.now)
          (contents c.serve_pieces.new.output) c.new-lines.ensures c.in-Ok-Err.ensures.answered,
    )

pub returns-in-Ok-Err-clause-cause : goal.returns-in-Ok-Err-clause-cause
returns-in-Ok-Err-clause-cause g c =
    let contents = g.O.Output.contents in
    let served = c.in-Ok-Err.ensures.answered in
    inr (
      ended_badly left_of g.I.Input.remaining g.I.Input.has_failed c.in-Ok-Err.field-0 c.new-lines.result c.serve_pieces.new.pieces c.args.input.now
          c.serve_pieces.new.input served.pieces served.taken c.in-Ok-Err.field-0-0 c.in-Ok-Err.field-0-is,
      serves_to_end left_of g.I.Input.remaining g.I.Input.has_failed g.K.Desk.does c.in-Ok-Err.field-0 c.new-lines.result c.serve_pieces.new.pieces c.args.input.now
          c.serve_pieces.new.input c.args.session.now c.serve_pieces.new.session c.args.desk.now c.serve_pieces.new.desk (contents c.args.output.now)
          (contents c.serve_pieces.new.output) c.new-lines.ensures served,
    )

-- a write failed
pub returns-in-Err-clause-stopped : goal.returns-in-Err-clause-stopped
returns-in-Err-clause-stopped g c =
    inr (
      left_of c.serve_pieces.new.pieces,
      stops_before_end left_of g.I.Input.remaining g.I.Input.has_failed g.K.Desk.does c.new-lines.result c.serve_pieces.new.pieces c.args.input.now
          c.serve_pieces.new.input c.args.session.now c.args.desk.now c.serve_pieces.new.desk (g.O.Output.contents c.args.output.now)
          (g.O.Output.contents c.serve_pieces.new.output) c.new-lines.ensures c.in-Err.ensures.stopped,
    )
