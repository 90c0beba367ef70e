-- What a session at a hub has may go to another thread, and a hub may be shared: for a caller whose threads share one. The search for it is
-- too long in one piece.
use denote.RattleType.{RattleType}
use denote.Param.Send.{IsSend, IsSync, sendable}
use Rattle.std.proofs.Crossing.{crosses}
use Rattle.core.specs.declared.ledger.Ledger as ledger
use Rattle.core.proofs.ledger.Book.TheSendSync as book
use Rattle.core.proofs.ledger.Share.TheSendSync as share
use Rattle.ownlog.proofs.CallerLemmas.{owner_send}
use Rattle.revision.specs.contracts.past.moved.MovedEdit as moved
use Rattle.world.specs.contracts.entry.Entry as entry
use Rattle.world.specs.contracts.progress.Progress as progress
use Rattle.published.specs.declared.life.Life as life
use Rattle.published.proofs.Crossing.{delta_send, document_send, entry_send, ordered_send, state_send, told_send}
use Rattle.hub.specs.contracts.ahead.Ahead as ahead
use Rattle.hub.specs.contracts.found.Found as found
use Rattle.hub.specs.contracts.hub.Hub as hub
use Rattle.hub.specs.contracts.seat.Seat as seat
use Rattle.hub.specs.contracts.seat.Tally as tally
use Rattle.hub.specs.contracts.locked.Closer as closer
use Rattle.hub.specs.contracts.locked.Writer as writer
pub use Rattle.hub.proofs.Histories.{fold-more}

pub board_send : IsSend progress.the_row
board_send = search (state_send, entry_send, sendable, crosses) depth 30 fits 20000

pub moved_send : IsSend moved.the_row
moved_send = search (delta_send, sendable, crosses) depth 60 fits 20000

pub ahead_send : (T : RattleType) (s : life.Ghosts T.Denot) (l : ledger.Ghosts T.Denot) → IsSend T → IsSend (ahead.the_row T s l)
ahead_send T s l a =
    let order = ordered_send T s l a in
    search (moved_send, sendable, crosses) depth 60 fits 20000

pub found_send : (T : RattleType) (s : life.Ghosts T.Denot) (l : ledger.Ghosts T.Denot) → IsSend T → IsSend (found.the_row T s l)
found_send T s l a =
    let order = ordered_send T s l a in
    search (sendable, crosses) depth 60 fits 20000

pub seat_send : (T : RattleType) (s : life.Ghosts T.Denot) (l : ledger.Ghosts T.Denot) → IsSend T → IsSend (seat.the_row T s l)
seat_send T s l a =
    let edits = ahead_send T s l a in
    search (share.the_send, sendable, crosses) depth 60 fits 20000

pub tally_send : (T : RattleType) (s : life.Ghosts T.Denot) (l : ledger.Ghosts T.Denot) → IsSend T → IsSend (tally.the_row T s l)
tally_send T s l a = search (share.the_send, sendable, crosses) depth 60 fits 20000

pub writer_send : (T : RattleType) (s : life.Ghosts T.Denot) (l : ledger.Ghosts T.Denot) → IsSend T → IsSend (writer.the_row T s l)
writer_send T s l a = search (share.the_send, sendable, crosses) depth 60 fits 20000

pub closer_send : (T : RattleType) → IsSend T → IsSend (closer.the_row T)
closer_send T a = search (sendable, crosses) depth 60 fits 20000

pub hub_sync : (D T : RattleType) (s : life.Ghosts T.Denot) (l : ledger.Ghosts T.Denot) → IsSend T → IsSync T → IsSync (hub.the_row D T s l)
hub_sync D T s l a b =
    let told = told_send D T s l a in
    let order = owner_send entry.the_row entry_send in
    search (board_send, document_send, book.the_send, share.the_send, sendable, crosses) depth 60 fits 20000
