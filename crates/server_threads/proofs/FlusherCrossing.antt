-- What a flusher has may go to another thread. The search for it is too long in one piece.
use denote.RattleType.{RattleType}
use denote.Ref.{NamedLft}
use denote.Param.Send.{IsSend, IsSync, AllSend, sendable, recorded_send, struct_send}
use denote.Struct.Declared.{shape}
use denote.Struct.Struct.{Struct}
use Rattle.std.proofs.Crossing.{crosses, frees}
use Rattle.core.specs.declared.ledger.Ledger as ledger
use Rattle.ownlog.proofs.CallerLemmas.{owner_send}
use Rattle.left_right.specs.declared.Absorb as absorb
use Rattle.left_right.proofs.part.Part.TheSendSync as part
use Rattle.left_right.proofs.part.Deed.TheSendSync as deed
use Rattle.atomic_table.proofs.shared.Seat.TheSendSync as place
use Rattle.atomic_table.proofs.shared.Shared.TheSendSync as table
use Rattle.atomic_table.proofs.send_lease.SendLease.TheSendSync as lease
use Rattle.disk.specs.declared.device.Disk as disk
use Rattle.published.specs.declared.life.Life as life
use Rattle.published.specs.contracts.batch.BatchItem as batch
use Rattle.published.specs.contracts.batch.MomentItem as moment
use Rattle.published.specs.contracts.log.Log as log
use Rattle.milestone.specs.contracts.cells.Cells as cells
use Rattle.milestone.specs.contracts.job.Job as job
use Rattle.recovery.specs.contracts.receipt.Receipt as receipt
use Rattle.view.specs.News.{News}
use Rattle.view.specs.Shown.{Seen}
use Rattle.view.specs.declared.shown.Basis.{Basis}
use Rattle.view.specs.contracts.shown.News as news
use Rattle.view.specs.contracts.publisher.Publisher as publisher
use Rattle.view.specs.contracts.publisher.Publisher.TheInside as inside
use Rattle.published.proofs.Crossing.{name_send, delta_send, document_send, sources_send, state_send, batch_send, moment_send, prefix_send, ordered_send, told_send}
use Rattle.view.proofs.CallerLemmas.{commands_send, shown_send, shown_sync}
use Rattle.hub.proofs.CallerLemmas.{hub_sync, writer_send}
use Rattle.flusher.specs.contracts.flusher.Flusher as flusher
use Rattle.server_threads.specs.contracts.writing.CommonParts as shared
use Rattle.server_threads.specs.contracts.writing.Writing as writing
use Rattle.server_threads.specs.contracts.written.Written as written

pub cells_send : IsSend cells.the_row
cells_send = search (sendable, crosses) depth 60 fits 20000

pub job_send : IsSend job.the_row
job_send = search (name_send, delta_send, sources_send, sendable, crosses) depth 60 fits 20000

pub receipt_send : (D : RattleType) → IsSend (receipt.the_row D)
receipt_send D = search (commands_send, sendable, crosses) depth 60 fits 20000

pub news_send : (T : RattleType) (s : life.Ghosts T.Denot) (l : ledger.Ghosts T.Denot) → IsSend T → IsSend (news.the_row T s l)
news_send T s l a =
    let prefix = prefix_send T s l a in
    search (commands_send, document_send, sendable, crosses) depth 60 fits 20000

pub log_send : (D T : RattleType) (s : life.Ghosts T.Denot) (l : ledger.Ghosts T.Denot) → IsSend (log.the_row D T s l)
log_send D T s l =
    let owner = owner_send batch.the_row batch_send in
    let moments = owner_send moment.the_row moment_send in
    search (sendable, crosses) depth 60 fits 20000

pub publisher_send : (D T : RattleType) (d : disk.Ghosts D.Denot) (s : life.Ghosts T.Denot) (l : ledger.Ghosts T.Denot) (shows : absorb.Ghosts Seen News Basis) → IsSend D → IsSend T
    → IsSync T → IsSend (publisher.the_row D T shows d s l)
publisher_send D T d s l shows a b c =
    let x = shown_sync T s l c in
    let y = shown_send T s l b in
    let news = news_send T s l b in
    let told = told_send D T s l b in
    let ordered = ordered_send T s l b in
    let all : AllSend (shape (inside.the_type D T shows d s l)).fields = (
      search (part.the_send, deed.the_send, place.the_send, table.the_send, table.the_sync, lease.the_send, lease.the_sync, frees, sendable, crosses) depth 40 fits 20000,
      (log_send D T s l, (told, (search (receipt_send, document_send, sendable, crosses) depth 60 fits 20000, tt))),
    ) in
    let fields : IsSend (inside.the_row D T shows d s l) =
    recorded_send (Struct (shape (inside.the_type D T shows d s l))) _ _ (inside.the_type D T shows d s l).to_one (struct_send (shape (inside.the_type D T shows d s l)) all) in
    search sendable depth 3

flusher_fields : (D T : RattleType) (d : disk.Ghosts D.Denot) (s : life.Ghosts T.Denot) (l : ledger.Ghosts T.Denot) → IsSend D → IsSend T → IsSync T
    → AllSend (shape (flusher.the_type D T d s l)).fields
flusher_fields D T d s l a b c =
    let ordered = ordered_send T s l b in (
      search (cells_send, job_send, state_send, sendable, crosses) depth 60 fits 20000,
      (
        publisher_send D T d s l _ a b c,
        (
          search (commands_send, document_send, sendable, crosses) depth 60 fits 20000,
          (search (sendable, crosses) depth 60 fits 20000, (search (sendable, crosses) depth 60 fits 20000, tt)),
        ),
      ),
    )

pub shared_sync : (k : NamedLft) (D T R W : RattleType) (s : life.Ghosts T.Denot) (l : ledger.Ghosts T.Denot) → IsSend T → IsSync T → IsSync R → IsSync W
    → IsSync (shared.the_row k D T R W s l)
shared_sync k D T R W s l a b c e =
    let hub = hub_sync D T s l a b in
    search (sendable, crosses) depth 60 fits 20000

pub writing_fields : (k : NamedLft) (D T R W : RattleType) (d : disk.Ghosts D.Denot) (s : life.Ghosts T.Denot) (l : ledger.Ghosts T.Denot) → IsSend D → IsSend T → IsSync T → IsSync R → IsSync W
    → AllSend (shape (writing.the_type k D T R W d s l)).fields
writing_fields k D T R W d s l a b y c e =
    let shared = shared_sync k D T R W s l b y c e in (
      search (sendable, crosses) depth 20 fits 20000,
      (
        search (sendable, crosses) depth 20 fits 20000,
        (struct_send (shape (flusher.the_type D T d s l)) (flusher_fields D T d s l a b y), (writer_send T s l b, tt)),
      ),
    )

pub writing_send : (k : NamedLft) (D T R W : RattleType) (d : disk.Ghosts D.Denot) (s : life.Ghosts T.Denot) (l : ledger.Ghosts T.Denot) → IsSend D → IsSend T → IsSync T → IsSync R → IsSync W
    → IsSend (writing.the_row k D T R W d s l)
writing_send k D T R W d s l a b y c e =
    recorded_send (Struct (shape (writing.the_type k D T R W d s l))) _ _ (writing.the_type k D T R W d s l).to_one
    (struct_send (shape (writing.the_type k D T R W d s l)) (writing_fields k D T R W d s l a b y c e))

pub written_send : (k : NamedLft) (D T R : RattleType) (d : disk.Ghosts D.Denot) (s : life.Ghosts T.Denot) (l : ledger.Ghosts T.Denot) → IsSend D → IsSend T → IsSync T → IsSync R
    → IsSend (written.the_row k D T R d s l)
written_send k D T R d s l a b y c =
    let all : AllSend (shape (written.the_type k D T R d s l)).fields = (
      search (sendable, crosses) depth 20 fits 20000,
      (
        struct_send (shape (flusher.the_type D T d s l)) (flusher_fields D T d s l a b y),
        (writer_send T s l b, (search (sendable, crosses) depth 200 fits 20000, tt)),
      ),
    ) in
    recorded_send (Struct (shape (written.the_type k D T R d s l))) _ _ (written.the_type k D T R d s l).to_one (struct_send (shape (written.the_type k D T R d s l)) all)
