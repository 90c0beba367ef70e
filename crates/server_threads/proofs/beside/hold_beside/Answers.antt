use Rattle.std.proofs.Common.{rules}
use Rattle.server_threads.proofs.beside.hold_beside.Goals as goal

-- the writing and the sessions are unchanged
pub scoped-requires : goal.scoped-requires
scoped-requires g c = search rules depth 40 fits 40000
