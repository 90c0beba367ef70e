-- What a run's order and published batches consist of may go to another thread: for a caller whose threads have such. The search for it is too
-- long in one piece.
use denote.RattleType.{RattleType}
use denote.Param.Send.{IsSend, IsSync, sendable}
use Rattle.std.proofs.Crossing.{crosses}
use Rattle.std.proofs.MapsCrossing as maps
use Rattle.core.specs.declared.ledger.Ledger as ledger
use Rattle.ownlog.proofs.CallerLemmas.{front_send}
use Rattle.delta.specs.contracts.delta.Delta as delta
use Rattle.delta.specs.contracts.op.Op as op
use Rattle.document.specs.contracts.document.Document as document
use Rattle.revision.specs.contracts.rule.name.Name as name
use Rattle.revision.specs.contracts.past.sources.Sources as sources
use Rattle.revision.specs.contracts.past.source_table.SourceTable as table
use Rattle.revision.specs.contracts.past.Past as past
use Rattle.revision.specs.contracts.past.doc_state.DocState as one
use Rattle.revision.specs.contracts.rule.taken.Taken as taken
use Rattle.revision.specs.contracts.past.state.State as state
use Rattle.world.specs.contracts.entry.Entry as entry
use Rattle.published.specs.declared.life.Life as life
use Rattle.published.specs.contracts.batch.BatchItem as batch
use Rattle.published.specs.contracts.batch.MomentItem as moment
use Rattle.published.specs.contracts.moments.Moments as moments
use Rattle.published.specs.contracts.order.Ordered as ordered
use Rattle.published.specs.contracts.prefix.PublishedPrefix as prefix
use Rattle.published.specs.contracts.told.Told as told

pub name_send : IsSend name.the_row
name_send = search (sendable, crosses, maps.crosses) depth 60 fits 20000

op_send : IsSend op.the_row
op_send = search (sendable, crosses, maps.crosses) depth 60 fits 20000

op_sync : IsSync op.the_row
op_sync = search (sendable, crosses, maps.crosses) depth 60 fits 20000

pub delta_send : IsSend delta.the_row
delta_send = search (op_send, op_sync, sendable, crosses) depth 60 fits 20000

pub document_send : IsSend document.the_row
document_send = search (sendable, crosses, maps.crosses) depth 60 fits 20000

pub sources_send : IsSend sources.the_row
sources_send = search (name_send, sendable, crosses) depth 60 fits 20000

pub table_send : IsSend table.the_row
table_send = search (name_send, sources_send, sendable, crosses) depth 60 fits 20000

pub past_send : IsSend past.the_row
past_send = search (name_send, delta_send, document_send, sources_send, sendable, crosses) depth 60 fits 20000

pub one_send : IsSend one.the_row
one_send = search (name_send, past_send, document_send, table_send, sendable, crosses) depth 60 fits 20000

pub taken_send : IsSend taken.the_row
taken_send = search (name_send, delta_send, sendable, crosses, maps.crosses) depth 60 fits 20000

pub state_send : IsSend state.the_row
state_send = search (one_send, sendable, crosses, maps.crosses) depth 60 fits 20000

pub entry_send : IsSend entry.the_row
entry_send = search (taken_send, sendable, crosses, maps.crosses) depth 60 fits 20000

pub batch_send : IsSend batch.the_row
batch_send = search (taken_send, sendable, crosses) depth 60 fits 20000

pub moment_send : IsSend moment.the_row
moment_send = search (sendable, crosses) depth 60 fits 20000

pub ordered_send : (T : RattleType) (s : life.Ghosts T.Denot) (l : ledger.Ghosts T.Denot) → IsSend T → IsSend (ordered.the_row T s l)
ordered_send T s l a =
    let order = front_send entry.the_row entry_send in
    search (sendable, crosses) depth 60 fits 20000

pub moments_send : (T : RattleType) (s : life.Ghosts T.Denot) (l : ledger.Ghosts T.Denot) → IsSend T → IsSend (moments.the_row T s l)
moments_send T s l a =
    let moments = front_send moment.the_row moment_send in
    search (sendable, crosses) depth 60 fits 20000

pub prefix_send : (T : RattleType) (s : life.Ghosts T.Denot) (l : ledger.Ghosts T.Denot) → IsSend T → IsSend (prefix.the_row T s l)
prefix_send T s l a =
    let log = front_send batch.the_row batch_send in
    let order = ordered_send T s l a in
    let moments = moments_send T s l a in
    search (sendable, crosses) depth 60 fits 20000

pub told_send : (D T : RattleType) (s : life.Ghosts T.Denot) (l : ledger.Ghosts T.Denot) → IsSend T → IsSend (told.the_row D T s l)
told_send D T s l a =
    let prefix = prefix_send T s l a in
    search (sendable, crosses) depth 60 fits 20000
