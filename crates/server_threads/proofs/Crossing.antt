-- What a desk at a hub has may go to another thread. The search for it is too long in one piece.
use denote.RattleType.{RattleType}
use denote.Ref.{NamedLft}
use denote.Param.Send.{IsSend, IsSync, sendable}
use Rattle.std.proofs.Crossing.{crosses}
use Rattle.core.specs.declared.ledger.Ledger as ledger
use Rattle.published.specs.declared.life.Life as life
use Rattle.published.proofs.Crossing.{told_send}
use Rattle.view.proofs.CallerLemmas.{viewer_send}
use Rattle.hub.proofs.CallerLemmas.{found_send, seat_send, hub_sync}
use Rattle.hub_desk.specs.contracts.counters.Counters as counters
use Rattle.hub_desk.specs.contracts.desk.HubDesk as desk

pub counters_sync : IsSync counters.the_row
counters_sync = search (sendable, crosses) depth 60 fits 20000

pub desk_send : (k : NamedLft) (D T R : RattleType) (s : life.Ghosts T.Denot) (l : ledger.Ghosts T.Denot) → IsSend T → IsSync T → IsSync R
    → IsSend (desk.the_row k D T R s l)
desk_send k D T R s l a b c =
    let hub = hub_sync D T s l a b in
    let seat = seat_send T s l a in
    let viewer = viewer_send D T s l a b in
    let told = told_send D T s l a in
    let found = found_send T s l a in
    search (counters_sync, sendable, crosses) depth 60 fits 20000
