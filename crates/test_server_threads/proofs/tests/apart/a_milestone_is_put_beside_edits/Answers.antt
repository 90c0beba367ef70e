use denote.Param.Send.{param_send, arg_send}
use Rattle.disk.proofs.Crossing.{device_send}
use Rattle.test_server_threads.proofs.tests.apart.a_milestone_is_put_beside_edits.Goals as goal

-- the store's device goes to the thread that writes
pub served-store-requires-send-D : goal.served-store-requires-send-D
served-store-requires-send-D g c κs within = search (device_send, param_send, arg_send) depth 8
