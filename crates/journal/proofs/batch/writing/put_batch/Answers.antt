use Rattle.std.proofs.Common.{All, subst, arith}
use Rattle.std.proofs.lemmas.Grind.{common_steps}
use Rattle.std.proofs.lemmas.List.{take_all}
use Rattle.std.proofs.lemmas.List.Elements.{All-more}
use Rattle.revision.specs.Command.{IsTaken}
use Rattle.journal.specs.BatchSpelling.{batch}
use Rattle.journal.proofs.batch.writing.put_batch.Goals as goal

pub loop-taken-preserved : goal.loop-taken-preserved
loop-taken-preserved c =
    let x = c.taken-item.result in
    record {
      spelled = grind (arith, common_steps);
      taken = All-more IsTaken c.args.batch.now c.loop-taken.taken-index x c.loop-taken-test.true c.loop-taken.invariant.taken (subst IsTaken c.taken-item.is c.in_ok-put_entry.ensures.taken);
    }

pub returns-clause-spelled : goal.returns-clause-spelled
unfolding batch
returns-clause-spelled c = grind (arith, common_steps)

pub returns-clause-batch : goal.returns-clause-batch
returns-clause-batch c = record {
  some = c.requires.some;
  short = c.requires.short;
  taken = subst (All IsTaken) (take_all _ _ c.loop-taken-test.false) c.loop-taken.invariant.taken;
}
