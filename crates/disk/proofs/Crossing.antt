-- A device over a file may go to another thread: for a caller that gives it to one. The search for it is too long in one piece.
use denote.Param.Send.{IsSend, sendable}
use Rattle.std.proofs.Crossing.{crosses}
use Rattle.disk.specs.contracts.tried.FileError as fault
use Rattle.disk.specs.contracts.raw.HostFile as host
use Rattle.disk.specs.contracts.raw.HostFileRawFile.TheImpl as raw
use Rattle.disk.specs.contracts.file.FileDisk as device

pub fault_send : IsSend fault.the_row
fault_send = search (sendable, crosses) depth 60 fits 20000

pub host_send : IsSend host.the_row
host_send = search (fault_send, sendable, crosses) depth 60 fits 20000

pub device_send : IsSend (device.the_row host.the_row raw.ghosts)
device_send = search (host_send, sendable, crosses) depth 60 fits 20000
