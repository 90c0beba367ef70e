use Rattle.milestone.proofs.Marks.{mark_none, other_mark}
use Rattle.milestone.proofs.reading.mark_in_byte.Goals as goal

pub returns-in_default-clause-none : goal.returns-in_default-clause-none
returns-in_default-clause-none c = λ is. mark_none c.args.bytes.now c.in_default.ensures.none

pub returns-in_default-mark_of-clause-none : goal.returns-in_default-mark_of-clause-none
returns-in_default-mark_of-clause-none c = λ is. other_mark c.in-Some.read c.args.bytes.now c.in-Some.rest.now c.in-Some.ensures.found c.in_default-mark_of.ensures.none
