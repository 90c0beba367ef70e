use Rattle.std.proofs.Common.{◌≡◌, take, sum_by, ap, arith, All, subst}
use Rattle.std.proofs.lemmas.List.{take_all}
use Rattle.std.proofs.lemmas.List.Elements.{All-more}
use Rattle.std.proofs.lemmas.List.Sums.{sum_by_more}
use Rattle.revision.specs.Command.{IsTaken, width_of}
use Rattle.journal.proofs.batch.writing.batch_len.Goals as goal

pub loop-taken-preserved : goal.loop-taken-preserved
loop-taken-preserved c =
    let xs = c.args.batch.now in
    let at = c.loop-taken in
    record {
      len = omega (arith, sum_by_more width_of xs at.taken-index c.taken-item.result c.loop-taken-test.true, ap width_of c.taken-item.is);
      taken = All-more IsTaken xs at.taken-index c.taken-item.result c.loop-taken-test.true at.invariant.taken (subst IsTaken c.taken-item.is c.width.ensures.taken);
    }

pub returns-clause-len : goal.returns-clause-len
returns-clause-len c =
    let all : take c.loop-taken.taken-index c.args.batch.now ≡ c.args.batch.now = take_all _ _ c.loop-taken-test.false in
    omega (arith, c.loop-taken.invariant.len, ap (sum_by width_of) all)

pub returns-clause-taken : goal.returns-clause-taken
returns-clause-taken c =
    let all : take c.loop-taken.taken-index c.args.batch.now ≡ c.args.batch.now = take_all _ _ c.loop-taken-test.false in
    subst (All IsTaken) all c.loop-taken.invariant.taken
