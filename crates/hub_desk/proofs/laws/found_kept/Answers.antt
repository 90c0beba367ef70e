use Rattle.hub_desk.proofs.Acknowledged.{found_through, refused_by_board}
use Rattle.hub_desk.proofs.laws.found_kept.Goals as goal

pub returns-clause-kept : goal.returns-clause-kept
returns-clause-kept c = found_through

pub returns-clause-refused : goal.returns-clause-refused
returns-clause-refused c = refused_by_board
