use Rattle.std.proofs.Common.{◌≡◌, ◌∙◌, true, ap, subst, sym}
use Rattle.sockets.specs.Socket.{bytes_of}
use Rattle.sockets.specs.Ends.{ends_in_write, was_closed}
use Rattle.sockets.specs.Host.{reads_of, writes_of}
use Rattle.sockets.specs.Outgoing.{contents_of}
use Rattle.sockets.proofs.Served.{talks_with_nobody, talks_whole, talks_broken_off}
use Rattle.sockets.proofs.connection.serve_halves.Goals as goal

pub returns-in-Err : goal.returns-in-Err
returns-in-Err g c =
    talks_with_nobody g.K.Desk.does c.args.hall.now.ended.id c.of.result c.args.desk.now
    (c.of.ensures.reads ∙ c.requires.new.0, c.of.ensures.writes ∙ (ap writes_of c.in-Err.ensures.refused ∙ c.requires.new.1))

pub returns-in-Ok-ended : goal.returns-in-Ok-ended
returns-in-Ok-ended g c =
    talks_whole g.K.Desk.does c.args.hall.now.ended.id c.of-in-Ok-ended.result c.in-Ok-ended.why c.args.desk.now c.converse-ended.new.desk
    (reads_of c.args.reader) (reads_of c.converse-ended.new.reader) (contents_of c.in-Ok.output) (contents_of c.converse-ended.new.output)
    c.requires.new.0 (c.in-Ok.ensures.contents ∙ ap bytes_of c.requires.new.1) c.of-in-Ok-ended.ensures.reads
    (ap bytes_of c.of-in-Ok-ended.ensures.writes ∙ c.in-Ok-finish.ensures.whole) (ap was_closed c.of-in-Ok-ended.ensures.writes ∙ c.in-Ok-finish.ensures.unshut)
    c.in-Ok-ended.ensures.ends c.in-Ok-ended.ensures.answered

pub returns : goal.returns
returns g c =
    talks_broken_off g.K.Desk.does c.args.hall.now.ended.id c.converse-ended.result c.cut_off.result c.in-Err-finish.why c.args.desk.now c.converse-ended.new.desk
    (reads_of c.args.reader) (reads_of c.converse-ended.new.reader) (writes_of c.in-Err-finish.writer) (contents_of c.in-Ok.output)
    (contents_of c.converse-ended.new.output) c.in-Err-finish.ensures.part.0 c.requires.new.0 (c.in-Ok.ensures.contents ∙ ap bytes_of c.requires.new.1)
    c.cut_off.ensures.reads c.cut_off.ensures.writes c.in-Err-finish.ensures.cut_unshut c.in-Err-finish.ensures.part.1
    (subst (λ hall. ends_in_write hall c.in-Err-finish.why (writes_of c.in-Err-finish.writer) ≡ true) (sym c.requires.name) c.in-Err-finish.ensures.why)
    c.converse-ended.ensures.answered c.converse-ended.ensures.stopped
