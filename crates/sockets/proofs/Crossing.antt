-- What a thread that serves shares, and what it gives back, may go to another thread. The search for it is too long in one piece.
use denote.RattleType.{RattleType}
use denote.Param.Send.{IsSend, IsSync, AllSend, sendable, recorded_send, struct_send}
use denote.Struct.Declared.{shape}
use denote.Struct.Struct.{Struct}
use Rattle.std.proofs.Crossing.{crosses, Deque-send}
use Rattle.core.specs.declared.ledger.Ledger as ledger
use Rattle.core.proofs.ledger.Share.TheSendSync as share
use Rattle.core.proofs.once.OnceLock.TheSendSync as once
use Rattle.sockets.specs.contracts.raw.HostPeer as host
use Rattle.sockets.specs.contracts.guests.Guests as guests
use Rattle.sockets.specs.contracts.guests.PeerPart as part
use Rattle.sockets.specs.contracts.guests.Guest as guest
use Rattle.sockets.specs.contracts.hall.Hall as hall
use Rattle.sockets.specs.contracts.lobby.Lobby as lobby
use Rattle.sockets.specs.contracts.lobby.Places as places
use Rattle.sockets.specs.contracts.threads.Attendant as attendant

pub hall_sync : IsSync hall.the_row
hall_sync = search (once.the_sync, sendable, crosses) depth 60 fits 20000

host_fields : AllSend (shape host.the_type).fields
host_fields = (search (sendable, crosses) depth 40 fits 20000, (search sendable depth 10, tt))

module _ (T : RattleType) (l : ledger.Ghosts T.Denot) (sends : IsSend T) where
  part_fields : AllSend (shape (part.the_type T l)).fields
  part_fields = (search (share.the_send, sendable, crosses) depth 40 fits 20000, tt)

  guests_fields : AllSend (shape (guests.the_type T l)).fields
  guests_fields = (
    search (sendable, crosses) depth 40 fits 20000,
    (search (share.the_send, sendable, crosses) depth 40 fits 20000, (search sendable depth 10, tt)),
  )

  guest_fields : AllSend (shape (guest.the_type T l)).fields
  guest_fields = (struct_send (shape host.the_type) host_fields, (struct_send (shape (part.the_type T l)) part_fields, tt))

  guest_send : IsSend (guest.the_row T l)
  guest_send = recorded_send (Struct (shape (guest.the_type T l))) _ _ (guest.the_type T l).to_one (struct_send (shape (guest.the_type T l)) guest_fields)

  places_fields : AllSend (shape (places.the_type T l)).fields
  places_fields = (
    Deque-send (guest.the_row T l) guest_send,
    (
      search (sendable, crosses) depth 20,
      (search (sendable, crosses) depth 20, (search (sendable, crosses) depth 20, (struct_send (shape (guests.the_type T l)) guests_fields, tt))),
    ),
  )

  places_send : IsSend (places.the_row T l)
  places_send = recorded_send (Struct (shape (places.the_type T l))) _ _ (places.the_type T l).to_one (struct_send (shape (places.the_type T l)) places_fields)

  pub lobby_sync : IsSync (lobby.the_row T l)
  lobby_sync =
      let inside = places_send in
      search (sendable, crosses) depth 30

  pub attendant_send : (K : RattleType) → IsSend K → IsSend (attendant.the_row K T l)
  attendant_send K k =
      recorded_send (Struct (shape (attendant.the_type K T l))) _ _ (attendant.the_type K T l).to_one
      (struct_send (shape (attendant.the_type K T l)) (k, (struct_send (shape (guests.the_type T l)) guests_fields, tt)))
