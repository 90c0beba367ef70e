use Rattle.disk.proofs.Apart.{left_apart, apart_synced, apart_still, same_elsewhere}
use Rattle.disk.proofs.laws.writes_apart.Goals as goal

pub returns-clause-left : goal.returns-clause-left
returns-clause-left c = left_apart

pub returns-clause-synced : goal.returns-clause-synced
returns-clause-synced c = apart_synced

pub returns-clause-still : goal.returns-clause-still
returns-clause-still c = apart_still

pub returns-clause-bytes : goal.returns-clause-bytes
returns-clause-bytes c = same_elsewhere
