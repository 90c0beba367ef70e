-- An owner may go to another thread, and a front may be shared: for a caller whose threads have such.
use denote.RattleType.{RattleType}
use denote.Param.Send.{IsSend, IsSync, sendable}
use Rattle.std.proofs.Crossing.{crosses}
use Rattle.logbook.proofs.tokens.Seen.TheSendSync as seen
use Rattle.logbook.proofs.tokens.Pen.TheSendSync as pen
use Rattle.logbook.proofs.word.Word.TheSendSync as word
use Rattle.ownlog.specs.contracts.owner.Owner as owner
use Rattle.ownlog.specs.contracts.front.Front as front

pub owner_send : (T : RattleType) → IsSend T → IsSend (owner.the_row T)
owner_send T a = search (seen.the_send, pen.the_send, word.the_send, sendable, crosses) depth 40 fits 20000

pub front_send : (T : RattleType) → IsSend T → IsSend (front.the_row T)
front_send T a = search (seen.the_send, sendable, crosses) depth 40 fits 20000

pub front_sync : (T : RattleType) → IsSend T → IsSync (front.the_row T)
front_sync T a = search (seen.the_sync, sendable, crosses) depth 40 fits 20000
