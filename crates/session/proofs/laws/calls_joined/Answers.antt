use Rattle.session.proofs.Calling.{calls-joined, calls-one}
use Rattle.session.proofs.Writes.{appends-both}
use Rattle.session.proofs.laws.calls_joined.Goals as goal

pub returns-clause-one : goal.returns-clause-one
returns-clause-one c = calls-one

pub returns-clause-more : goal.returns-clause-more
returns-clause-more c = calls-joined

pub returns-clause-written : goal.returns-clause-written
returns-clause-written c = appends-both
