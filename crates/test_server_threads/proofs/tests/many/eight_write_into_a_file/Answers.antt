use denote.Exit.{yes}
use denote.Param.Send.{param_send, arg_send}
use Rattle.disk.proofs.Crossing.{device_send}
use Rattle.test_server_threads.proofs.tests.many.eight_write_into_a_file.Goals as goal

-- the store's device goes to the thread that writes
pub eight_write-requires-send-D : goal.eight_write-requires-send-D
eight_write-requires-send-D g c κs = param_send 1 _ (arg_send _ yes _ device_send)
