use Rattle.sockets.proofs.Reading.{answered_nothing, answered_to_end, ended_so, one_connection, patient_yet, stopped_so}
use Rattle.sockets.proofs.conversation.converse.Goals as goal

pub returns-in_default-clause-answered : goal.returns-in_default-clause-answered
returns-in_default-clause-answered g c = answered_nothing g.K.Desk.does c.args.desk.now c.args.reader.now (g.O.Output.contents c.args.output.now)

pub returns-in_default-new-clause-answered : goal.returns-in_default-new-clause-answered
returns-in_default-new-clause-answered g c = answered_nothing g.K.Desk.does c.args.desk.now c.args.reader.now (g.O.Output.contents c.args.output.now)

pub returns-clause-answered : goal.returns-clause-answered
returns-clause-answered g c =
    answered_to_end g.K.Desk.does c.new-pieces.result c.serve_pieces.new.pieces c.args.reader.now c.serve_pieces.new.input c.args.desk.now c.serve_pieces.new.desk
    (g.O.Output.contents c.args.output.now) (g.O.Output.contents c.serve_pieces.new.output) c.in-Ok.session c.in-Ok.ensures.ok c.serve_pieces.result c.serve_pieces.new.session
    c.serve_pieces.ensures.answered

pub returns-clause-ends : goal.returns-clause-ends
returns-clause-ends g c =
    ended_so g.K.Desk.does c.new-pieces.result c.serve_pieces.new.pieces c.args.reader.now c.serve_pieces.new.input c.args.desk.now c.serve_pieces.new.desk
    (g.O.Output.contents c.args.output.now) (g.O.Output.contents c.serve_pieces.new.output) c.in-Ok.session c.in-Ok.ensures.ok c.args.hall.now.ended.id c.new-pieces.ensures.hall
    (patient_yet c.new-pieces.result c.args.reader.now c.args.hall.now.idle c.new-pieces.ensures.patience c.new-pieces.ensures.none)
    c.serve_pieces.result c.serve_pieces.new.session c.serve_pieces.ensures.answered

pub returns-clause-stopped : goal.returns-clause-stopped
returns-clause-stopped g c =
    stopped_so g.K.Desk.does c.new-pieces.result c.serve_pieces.new.pieces c.args.reader.now c.serve_pieces.new.input c.args.desk.now c.serve_pieces.new.desk
    (g.O.Output.contents c.args.output.now) (g.O.Output.contents c.serve_pieces.new.output) c.in-Ok.session c.in-Ok.ensures.ok c.serve_pieces.result c.serve_pieces.ensures.stopped

pub returns-clause-same : goal.returns-clause-same
returns-clause-same g c =
    one_connection g.K.Desk.does c.new-pieces.result c.serve_pieces.new.pieces c.args.reader.now c.serve_pieces.new.input c.args.desk.now c.serve_pieces.new.desk
    (g.O.Output.contents c.args.output.now) (g.O.Output.contents c.serve_pieces.new.output) c.in-Ok.session c.in-Ok.ensures.ok c.serve_pieces.result c.serve_pieces.new.session
    c.serve_pieces.ensures.answered c.serve_pieces.ensures.stopped
