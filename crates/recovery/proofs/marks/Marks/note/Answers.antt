use Rattle.std.proofs.Common.{◌≡◌, ◌+◌, ◌∷◌, [], ◌++◌, ◌∙◌, ap, take, List, sym, subst, arith}
use Rattle.std.proofs.lemmas.List.{take_more}
use Rattle.revision.specs.Command.{Taken}
use Rattle.recovery.specs.Marks.{IsNoted, Raised, marks_of}
use Rattle.recovery.proofs.Marking.{noted_more}
use Rattle.recovery.proofs.marks.Marks.note.Goals as goal

pub loop-taken-preserved : goal.loop-taken-preserved
loop-taken-preserved c =
    let batch = c.args.batch.now in
    let at = c.loop-taken.taken-index in
    let before = marks_of c.args.self.now in
    let now = marks_of c.raise.new.self in
    let more : take (at + 1) batch ≡ take at batch ++ c.taken-item.result ∷ [] =
    take_more batch at c.taken-item.result c.loop-taken-test.true ∙ ap (λ (t : Taken). take at batch ++ t ∷ []) (sym c.taken-item.is) in
    let raised : Raised c.args.segment c.taken-item.result.document c.taken-item.result.revision (marks_of c.loop-taken.self) now =
    rw (← c.document_number.ensures, ← c.revision.ensures) c.raise.ensures.raised in
    record {
      noted = subst (λ (l : List Taken). IsNoted c.args.segment l before now) (sym more)
          (noted_more c.args.segment (take at batch) c.taken-item.result before (marks_of c.loop-taken.self) now c.loop-taken.invariant.noted raised);
      room = omega (arith, c.loop-taken.invariant.room, c.raise.ensures.room);
    }
