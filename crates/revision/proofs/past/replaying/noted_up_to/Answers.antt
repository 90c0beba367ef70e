use Rattle.std.proofs.Common.{◌-◌, take, arith}
use Rattle.revision.specs.Past.{sources_after}
use Rattle.revision.proofs.KeptDocuments.{noted-at, noted-there}
use Rattle.revision.proofs.past.replaying.noted_up_to.Goals as goal

pub returns-in-Some-clause-there : goal.returns-in-Some-clause-there
returns-in-Some-clause-there c =
    λ changes are.
    let one = c.index-kept-left.result in
    let is = noted-at c.args.start c.args.sources.now changes c.args.kept.now (c.loop-left.left - 1) one are (omega (arith, c.loop-left.invariant, c.loop-left-test.true)) c.index-kept-left.is in
    noted-there one.sources c.in-Some.found (sources_after c.args.start c.args.sources.now (take (one.revision - c.args.start) changes)) c.in-Some.is (is (omega arith))
