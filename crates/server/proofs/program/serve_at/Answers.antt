use denote.Exit.{yes}
use denote.Param.Send.{param_send, arg_send}
use Rattle.std.proofs.Common.{subst}
use Rattle.disk.proofs.Crossing.{device_send}
use Rattle.sockets.specs.Attendance.{IsAttended}
use Rattle.sockets.specs.Host.{arrivals_of}
use Rattle.server.proofs.Serving.{served-at}
use Rattle.server.proofs.program.serve_at.Goals as goal

-- the store's device goes to the thread that writes
pub serve_on-connected-requires-send-D : goal.serve_on-connected-requires-send-D
serve_on-connected-requires-send-D g c κs within = param_send 2 _ (arg_send _ yes _ device_send)

-- nobody had come by the listener before
pub returns : goal.returns
returns g c =
    let s = c.serve_on-connected in
    served-at c.requires.from (
      s.result.attendance,
      record {
        life = s.ensures.served;
        attended = subst (λ came. IsAttended came (arrivals_of s.result.listener) s.result.attendance) c.requires.nobody s.ensures.attended;
        complete = s.ensures.complete;
        fails = s.ensures.fails;
        causes = s.ensures.causes;
      },
    )
    c.close-device.ensures c.leave.ensures c.close.ensures
