-- What a peer is sent.
use Rattle.std.specs.Prelude.{ℕ, List, ◌++◌, drop, vec_items}
use Rattle.sockets.specs.declared.outgoing.Outgoing.{Outgoing}
use Rattle.sockets.specs.declared.talk.Talk.{Ghosts}
use Rattle.sockets.specs.Socket.{bytes_of}
use Rattle.sockets.specs.Host.{writes_of}

-- what was written, and what is held back
abbrev pub contents_of : {T : Type 0} {names : Ghosts T} → Outgoing T names → List ℕ
contents_of output = bytes_of (writes_of output.writer) ++ drop output.sent (vec_items output.held)
