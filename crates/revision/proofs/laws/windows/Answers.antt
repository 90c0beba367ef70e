use Rattle.revision.proofs.Windows.{again_in_window, none_outside, shifts, stays_window, one_revision, again_for_long, taken_or_had, from_nothing}
use Rattle.revision.proofs.laws.windows.Goals as goal

pub returns-clause-again : goal.returns-clause-again
returns-clause-again c = again_in_window

pub returns-clause-outside : goal.returns-clause-outside
returns-clause-outside c = none_outside

pub returns-clause-shift : goal.returns-clause-shift
returns-clause-shift c = shifts

pub returns-clause-stay : goal.returns-clause-stay
returns-clause-stay c = stays_window

pub returns-clause-one : goal.returns-clause-one
returns-clause-one c = one_revision

pub returns-clause-long : goal.returns-clause-long
returns-clause-long c = again_for_long

pub returns-clause-had : goal.returns-clause-had
returns-clause-had c = taken_or_had

pub returns-clause-nothing : goal.returns-clause-nothing
returns-clause-nothing c = from_nothing
