use Rattle.history.proofs.ReadingOn.{reading_begins, reading_goes_on, reading_ends}
use Rattle.history.proofs.ReadingAll.{reading_finds}
use Rattle.history.proofs.laws.reading.Goals as goal

pub returns-clause-begin : goal.returns-clause-begin
returns-clause-begin c = reading_begins

pub returns-clause-next : goal.returns-clause-next
returns-clause-next c = reading_goes_on

pub returns-clause-end : goal.returns-clause-end
returns-clause-end c = reading_ends

pub returns-clause-all : goal.returns-clause-all
returns-clause-all c = reading_finds
