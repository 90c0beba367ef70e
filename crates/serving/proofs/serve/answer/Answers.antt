use Rattle.session.proofs.CallerLemmas.{fits_later}
use Rattle.serving.specs.Turns.{InReplies, InNews, InSending}
use Rattle.serving.proofs.Answering.{on_err, answers_turn}
use Rattle.serving.proofs.serve.answer.Goals as goal

pub returns-clause-answered : goal.returns-clause-answered
returns-clause-answered g c =
    answers_turn g.K.Desk.does c.args.piece.now c.args.is_cut c.args.session.now c.reply.new.session c.tell.new.session c.args.desk.now c.reply.new.desk c.tell.new.desk
    (g.O.Output.contents c.args.output.now) (g.O.Output.contents c.reply.new.output) (g.O.Output.contents c.tell.new.output) (g.O.Output.contents c.flush.new.self)
    c.in_ok-reply.ensures.fed c.in_ok-tell.ensures.told c.flush.ensures.kept

pub returns-in_err-reply-clause-stopped : goal.returns-in_err-reply-clause-stopped
returns-in_err-reply-clause-stopped g c =
    on_err c.from_residual.result
    (InReplies (record { bytes = c.args.piece.now; is_cut = c.args.is_cut }) c.reply.new.session c.reply.new.desk (g.O.Output.contents c.reply.new.output) c.in_err-reply.ensures.stopped)

pub returns-in_err-tell-clause-stopped : goal.returns-in_err-tell-clause-stopped
returns-in_err-tell-clause-stopped g c =
    on_err c.from_residual-in_err-tell.result
    (InNews (record { bytes = c.args.piece.now; is_cut = c.args.is_cut }) c.reply.new.session c.tell.new.session c.reply.new.desk c.tell.new.desk
    (g.O.Output.contents c.reply.new.output) (g.O.Output.contents c.tell.new.output) c.in_err-tell.ensures.cut c.in_ok-reply.ensures.fed c.in_err-tell.ensures.stopped)

pub returns-in_err-flush-clause-stopped : goal.returns-in_err-flush-clause-stopped
returns-in_err-flush-clause-stopped g c =
    on_err c.from_residual-in_err-flush.result
    (InSending (record { bytes = c.args.piece.now; is_cut = c.args.is_cut }) c.tell.new.session c.tell.new.desk (g.O.Output.contents c.flush.new.self)
    (answers_turn g.K.Desk.does c.args.piece.now c.args.is_cut c.args.session.now c.reply.new.session c.tell.new.session c.args.desk.now c.reply.new.desk c.tell.new.desk
    (g.O.Output.contents c.args.output.now) (g.O.Output.contents c.reply.new.output) (g.O.Output.contents c.tell.new.output) (g.O.Output.contents c.flush.new.self)
    c.in_ok-reply.ensures.fed c.in_ok-tell.ensures.told c.flush.ensures.kept))

-- the state that the desk shows has gone on
pub returns-clause-fits : goal.returns-clause-fits
returns-clause-fits g c =
    fits_later (g.K.Desk.reached c.reply.new.desk) (g.K.Desk.reached c.tell.new.desk) c.reply.new.shelf c.tell.ensures.later c.reply.ensures.fits

pub returns-in_err-tell-clause-fits : goal.returns-in_err-tell-clause-fits
returns-in_err-tell-clause-fits g c =
    fits_later (g.K.Desk.reached c.reply.new.desk) (g.K.Desk.reached c.tell.new.desk) c.reply.new.shelf c.tell.ensures.later c.reply.ensures.fits

pub returns-in_err-flush-clause-fits : goal.returns-in_err-flush-clause-fits
returns-in_err-flush-clause-fits g c =
    fits_later (g.K.Desk.reached c.reply.new.desk) (g.K.Desk.reached c.tell.new.desk) c.reply.new.shelf c.tell.ensures.later c.reply.ensures.fits
