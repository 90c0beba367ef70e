use Rattle.std.proofs.Common.{◌≡◌, true}
use Rattle.sockets.specs.Socket.{bytes_of}
use Rattle.sockets.specs.Ends.{newest_waited, was_closed}
use Rattle.sockets.specs.Host.{number_written, writes_of}
use Rattle.sockets.proofs.outgoing.write_some.Given as goal

-- each write so far waited in vain
abbrev pub invariant-loop : goal.invariant-loop
invariant-loop l = record {
  waits : newest_waited l.counter (writes_of l.writer) ≡ true;
  same : number_written l.writer ≡ number_written l.fn.writer;
  unshut : was_closed (writes_of l.writer) ≡ was_closed (writes_of l.fn.writer);
  none : bytes_of (writes_of l.writer) ≡ bytes_of (writes_of l.fn.writer);
}
