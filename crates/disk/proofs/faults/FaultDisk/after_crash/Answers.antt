use Rattle.std.proofs.Common.{sym, ◌∙◌, subst, length, reverse}
use Rattle.disk.specs.Device.{MayLeave}
use Rattle.disk.specs.Memory.{bytes_of, calls_of}
use Rattle.disk.specs.Rewound.{unsynced_ranges}
use Rattle.disk.proofs.Stops.{within-reverse, left_possible}
use Rattle.disk.proofs.faults.FaultDisk.after_crash.Goals as goal

pub returns-clause-possible : goal.returns-clause-possible
returns-clause-possible c =
    let disk = c.args.self.now.disk in
    let calls = reverse (calls_of disk) in
    subst (MayLeave record { seen = bytes_of disk; unsynced = unsynced_ranges calls }) (sym (c.holding.ensures.bytes ∙ c.in_ok-left.ensures))
    (left_possible c.args.self.now.plan.left calls (bytes_of disk) (within-reverse (length (bytes_of disk)) (calls_of disk) disk.within))
