use Rattle.session.proofs.Feeding.{replies-joined, replies-parted}
use Rattle.session.proofs.laws.pieces_joined.Goals as goal

pub returns-clause-joined : goal.returns-clause-joined
returns-clause-joined c = replies-joined

pub returns-clause-parted : goal.returns-clause-parted
returns-clause-parted c = replies-parted
