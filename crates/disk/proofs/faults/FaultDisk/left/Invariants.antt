use Rattle.std.proofs.Common.{◌≡◌, length, reverse, IsTrue}
use Rattle.std.specs.List.{list_all}
use Rattle.disk.specs.Left.{left_after}
use Rattle.disk.specs.Rewound.{is_within}
use Rattle.disk.specs.Stopped.{bytes_left}
use Rattle.disk.proofs.faults.FaultDisk.left.Given as goal

abbrev pub invariant-loop-call : goal.invariant-loop-call
invariant-loop-call l = record {
  same : left_after l.self.plan.left (reverse l.rest) l.bytes.items ≡ bytes_left l.self;
  within : IsTrue (list_all (is_within (length l.bytes.items)) l.rest);
  long : length l.bytes.items ≡ length l.self.disk.bytes.items;
}

abbrev pub decreases-loop-call : goal.decreases-loop-call
decreases-loop-call l = length l.rest
