use Rattle.std.proofs.Common.{◌≡◌, inl, get_or, arith}
use Rattle.recovery.specs.declared.marks.Mark.{Mark}
use Rattle.recovery.specs.Marks.{revision_for}
use Rattle.recovery.proofs.Covering.{next_mark, no_revision, at_most}
use Rattle.recovery.proofs.Marking.{marked_member, read_again}
use Rattle.recovery.proofs.freeing.first_of.Goals as goal
use Rattle.recovery.proofs.freeing.first_of.Goals.{else-mark-segment-via-then-mark-segment+else-mark-gt0, else-mark-segment-via-else-mark-segment}

abbrev no_mark : Mark
no_mark = record { segment = 0; document = 0; revision = 0 }

pub returns-then-mark-gt0-clause-some : goal.returns-then-mark-gt0-clause-some
returns-then-mark-gt0-clause-some c =
    let marks = c.args.marks.now in
    let mark : Mark = get_or marks c.loop-mark.mark-index no_mark in
    let member = marked_member c.args.segment marks c.loop-mark.mark-index mark c.loop-mark-test.true (read_again marks c.loop-mark.mark-index no_mark c.loop-mark-test.true) c.if-mark-segment.true in
    omega (arith, member, c.if-mark-gt0.true)

pub loop-mark-preserved : goal.loop-mark-preserved
loop-mark-preserved c document =
    let marks = c.args.marks.now in
    let mark : Mark = get_or marks c.loop-mark.mark-index no_mark in
    let next = next_mark c.args.segment document c.loop-mark.mark-index marks mark c.loop-mark-test.true (read_again marks c.loop-mark.mark-index no_mark c.loop-mark-test.true) in
    let none : revision_for c.args.segment document mark ≡ 0 = elim c.else-mark-segment.branch [
      | else-mark-segment-via-then-mark-segment+else-mark-gt0 w ↦ omega (arith, at_most c.args.segment document mark, w.if-mark-gt0.false)
      | else-mark-segment-via-else-mark-segment w ↦ no_revision c.args.segment document mark (inl w.if-mark-segment.false)
    ] in
    omega (arith, next, none, c.loop-mark.invariant document)
