use Rattle.server.proofs.Worked as worked
use Rattle.server.proofs.laws.worked_dump.Goals as goal

pub returns : goal.returns
returns c = worked.printed
