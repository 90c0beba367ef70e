use Rattle.std.proofs.Common.{ap, ◌∙◌}
use Rattle.revision.specs.Window.{taken_as}
use Rattle.revision.specs.Sources.{window_of, with_entry}
use Rattle.revision.proofs.Noted.{there-noted, put-back}
use Rattle.revision.proofs.past.source_table.note_with.Goals as goal

pub put_back-requires-clause-there : goal.put_back-requires-clause-there
put_back-requires-clause-there c =
    there-noted c.args.source.now (taken_as c.args.number c.args.revision (window_of c.args.source.now c.args.sources.now)) c.args.sources.now c.note.new.self c.in_ok-before.ensures.ok

pub returns-in-Err-clause-unchanged : goal.returns-in-Err-clause-unchanged
returns-in-Err-clause-unchanged c =
    c.put_back.ensures
    ∙ (ap (λ entry. with_entry c.args.source.now entry c.note.new.self) c.in_ok-before.ensures.before
    ∙ put-back c.args.source.now (taken_as c.args.number c.args.revision (window_of c.args.source.now c.args.sources.now)) c.args.sources.now c.note.new.self c.in_ok-before.ensures.ok)
