use Rattle.std.proofs.Common.{List, subst}
use Rattle.revision.specs.Command.{Taken}
use Rattle.segments.specs.Ring.{known_numbers}
use Rattle.recovery.specs.Marks.{marks_of, IsNoted}
use Rattle.recovery.proofs.Marked.{one_newest}
use Rattle.recovery.proofs.store.mark_batch.Goals as goal

pub returns-in-Some-clause-noted : goal.returns-in-Some-clause-noted
returns-in-Some-clause-noted c slot number newest =
    let found = c.in-Some.ensures.newest in
    subst (λ n. IsNoted n c.args.batch.now (marks_of c.args.marks.now) (marks_of c.note.new.self))
    (one_newest (known_numbers c.args.ring.now) found.0 slot c.in-Some.segment number found.1 newest)
    (subst (λ (l : List Taken). IsNoted c.in-Some.segment l (marks_of c.args.marks.now) (marks_of c.note.new.self)) c.as_slice.ensures c.note.ensures)
