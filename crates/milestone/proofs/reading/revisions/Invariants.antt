use Rattle.std.proofs.Common.{◌≡◌, length}
use Rattle.milestone.proofs.Windows.{AreRead}
use Rattle.milestone.proofs.reading.revisions.Given as goal

-- so many were read, and what they are
abbrev pub invariant-loop : goal.invariant-loop
invariant-loop l = record {
  number : l.window.number ≡ l.number;
  counted : length l.window.revisions ≡ l.counter;
  read : AreRead l.count l.high l.last l.bytes l.rest l.window.revisions;
}
