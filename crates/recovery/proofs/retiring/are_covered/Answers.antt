use Rattle.std.proofs.Common.{◌≢◌, ◌⊎◌, ◌≤◌, List, inl, inr, take, get_or, sym, subst, arith}
use Rattle.std.proofs.lemmas.List.{take_more}
use Rattle.recovery.specs.declared.marks.Mark.{Mark}
use Rattle.recovery.specs.Marks.{greatest_marked}
use Rattle.recovery.specs.Cells.{lowest_known}
use Rattle.recovery.proofs.Marking.{marked_member, low_more, read_again}
use Rattle.recovery.proofs.retiring.are_covered.Goals as goal
use Rattle.recovery.proofs.retiring.are_covered.Goals.{else-mark-segment-via-then-mark-segment+else-lowest_of-mark, else-mark-segment-via-else-mark-segment}

abbrev no_mark : Mark
no_mark = record { segment = 0; document = 0; revision = 0 }

pub returns-then-lowest_of-mark-clause-needed : goal.returns-then-lowest_of-mark-clause-needed
returns-then-lowest_of-mark-clause-needed c told =
    let mark : Mark = get_or c.args.marks.now c.loop-mark.mark-index no_mark in
    let member = marked_member c.args.segment c.args.marks.now c.loop-mark.mark-index mark c.loop-mark-test.true (read_again c.args.marks.now c.loop-mark.mark-index no_mark c.loop-mark-test.true) c.if-mark-segment.true in
    (mark.document, omega (arith, member, c.if-lowest_of-mark.true, c.lowest_of.ensures))

pub loop-mark-preserved : goal.loop-mark-preserved
loop-mark-preserved c document =
    let mark : Mark = get_or c.args.marks.now c.loop-mark.mark-index no_mark in
    let low : (mark.segment ≢ c.args.segment) ⊎ (mark.revision ≤ lowest_known c.args.cells.now mark.document) = elim c.else-mark-segment.branch [
      | else-mark-segment-via-then-mark-segment+else-lowest_of-mark w ↦ inr (omega (arith, w.if-lowest_of-mark.false, w.lowest_of.ensures))
      | else-mark-segment-via-else-mark-segment w ↦ inl w.if-mark-segment.false
    ] in
    subst (λ (l : List Mark). greatest_marked c.args.segment document l ≤ lowest_known c.args.cells.now document)
    (sym (take_more c.args.marks.now c.loop-mark.mark-index no_mark c.loop-mark-test.true))
    (low_more c.args.segment (take c.loop-mark.mark-index c.args.marks.now) mark (lowest_known c.args.cells.now) c.loop-mark.invariant low document)
