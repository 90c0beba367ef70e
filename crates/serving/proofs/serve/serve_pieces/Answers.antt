use Rattle.std.proofs.Common.{subst, sym, List, ℕ}
use Rattle.serving.proofs.Answering.{on_err, stops_in, taken_more, taken_yet}
use Rattle.serving.proofs.serve.serve_pieces.Goals as goal

pub pieces-init : goal.pieces-init
pieces-init g c = record {
  fits = c.requires.fits;
  works = c.requires.works;
  sent = λ works. works;
  answered = taken_yet g.K.Desk.does g.P.Pieces.gives c.args.session.now c.args.desk.now c.args.pieces.now c.args.input.now (g.O.Output.contents c.args.output.now);
}

-- the piece that was given is the one that is answered
pub pieces-preserved : goal.pieces-preserved
pieces-preserved g c = record {
  fits = c.answer.ensures.fits;
  works = c.in_ok-answer-in-Ok.ensures.works;
  sent = λ _. c.in_ok-answer-in-Ok.ensures.sent;
  answered = taken_more g.K.Desk.does g.P.Pieces.gives c.args.session.now c.pieces.session c.args.desk.now c.pieces.desk c.args.pieces.now c.pieces.pieces c.args.input.now c.pieces.input
      (g.O.Output.contents c.args.output.now) (g.O.Output.contents c.pieces.output) c.pieces.invariant.answered
      (record { bytes = c.piece.result.now; is_cut = c.in-Ok.is_cut }) c.answer.new.session c.answer.new.desk c.next-in-pieces.new.self c.next-in-pieces.new.input
      (g.O.Output.contents c.answer.new.output)
      (subst (λ (l : List ℕ). g.P.Pieces.gives c.pieces.pieces c.pieces.input (record { bytes = l; is_cut = c.in-Ok.is_cut }) c.next-in-pieces.new.self c.next-in-pieces.new.input)
      (sym c.piece.ensures) c.in-Ok.ensures.given)
      c.in_ok-answer-in-Ok.ensures.answered;
}

pub returns-in_err-answer-in-Ok-clause-stopped : goal.returns-in_err-answer-in-Ok-clause-stopped
returns-in_err-answer-in-Ok-clause-stopped g c =
    on_err c.from_residual.result
    (stops_in g.K.Desk.does g.P.Pieces.gives c.args.session.now c.pieces.session c.args.desk.now c.pieces.desk c.args.pieces.now c.pieces.pieces c.args.input.now c.pieces.input
    (g.O.Output.contents c.args.output.now) (g.O.Output.contents c.pieces.output) c.pieces.invariant.answered
    (record { bytes = c.piece.result.now; is_cut = c.in-Ok.is_cut }) c.answer.new.desk c.next-in-pieces.new.self c.next-in-pieces.new.input
    (g.O.Output.contents c.answer.new.output)
    (subst (λ (l : List ℕ). g.P.Pieces.gives c.pieces.pieces c.pieces.input (record { bytes = l; is_cut = c.in-Ok.is_cut }) c.next-in-pieces.new.self c.next-in-pieces.new.input)
    (sym c.piece.ensures) c.in-Ok.ensures.given)
    c.in_err-answer-in-Ok.ensures.stopped)
