use Rattle.revision.specs.Window.{taken_as}
use Rattle.revision.specs.Sources.{window_of}
use Rattle.revision.proofs.Noted.{but-once_noted}
use Rattle.revision.proofs.past.source_table.SourceTable.prepare_with.Goals as goal

pub invariant_of-self-2 : goal.invariant_of-self-2
invariant_of-self-2 c =
    let inside = c.if-not-self.self-inside in
    but-once_noted c.args.source.now (taken_as c.args.number c.args.revision (window_of c.args.source.now inside.ahead)) c.mark.new.changed.items inside.accepted inside.ahead c.note_with.new.sources c.note_with.result
    c.note_with.ensures.sources c.note_with.ensures.unchanged c.in_ok-mark.ensures.ok
