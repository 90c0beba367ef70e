use Rattle.revision.proofs.past.replaying.beginning.Goals as goal

pub returns-in-Some-clause-there : goal.returns-in-Some-clause-there
returns-in-Some-clause-there c = λ count deltas are. (c.in-Some.ensures.kept count c.args.document.now deltas are).1 c.in-Some.ensures.above
