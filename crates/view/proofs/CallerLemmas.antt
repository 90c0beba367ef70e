-- What a viewer has may go to another thread: for a caller whose threads have viewers. It is a reader of two copies that threads share, so
-- what is shown has to be fit for both. The search for it is too long in one piece.
use denote.RattleType.{RattleType}
use denote.Param.Send.{IsSend, IsSync, sendable}
use Rattle.std.proofs.Crossing.{crosses, frees}
use Rattle.std.proofs.MapsCrossing as maps
use Rattle.core.specs.declared.ledger.Ledger as ledger
use Rattle.logbook.proofs.tokens.Seen.TheSendSync as seen
use Rattle.left_right.proofs.part.Part.TheSendSync as part
use Rattle.atomic_table.proofs.shared.Seat.TheSendSync as place
use Rattle.atomic_table.proofs.shared.Shared.TheSendSync as table
use Rattle.atomic_table.proofs.send_lease.SendLease.TheSendSync as lease
use Rattle.delta.specs.contracts.delta.Delta as delta
use Rattle.delta.specs.contracts.op.Op as op
use Rattle.document.specs.contracts.document.Document as document
use Rattle.revision.specs.contracts.rule.name.Name as name
use Rattle.revision.specs.contracts.past.sources.Sources as sources
use Rattle.revision.specs.contracts.past.source_table.SourceTable as kept
use Rattle.revision.specs.contracts.past.Past as past
use Rattle.revision.specs.contracts.past.doc_state.DocState as one
use Rattle.revision.specs.contracts.past.state.State as state
use Rattle.revision.specs.contracts.rule.taken.Taken as taken
use Rattle.revision.specs.contracts.rule.batch.Batch as batch
use Rattle.published.specs.declared.life.Life as life
use Rattle.published.proofs.Crossing.{state_send, taken_send}
use Rattle.view.specs.contracts.shown.Shown as shown
use Rattle.view.specs.contracts.viewer.Viewer as viewer

pub name_sync : IsSync name.the_row
name_sync = search (sendable, crosses, maps.crosses) depth 60 fits 20000

op_send : IsSend op.the_row
op_send = search (sendable, crosses, maps.crosses) depth 60 fits 20000

op_sync : IsSync op.the_row
op_sync = search (sendable, crosses, maps.crosses) depth 60 fits 20000

pub delta_sync : IsSync delta.the_row
delta_sync = search (op_send, op_sync, sendable, crosses) depth 60 fits 20000

pub document_sync : IsSync document.the_row
document_sync = search (sendable, crosses, maps.crosses) depth 60 fits 20000

pub sources_sync : IsSync sources.the_row
sources_sync = search (name_sync, sendable, crosses) depth 60 fits 20000

pub table_sync : IsSync kept.the_row
table_sync = search (name_sync, sources_sync, sendable, crosses) depth 60 fits 20000

pub past_sync : IsSync past.the_row
past_sync = search (name_sync, delta_sync, document_sync, sources_sync, sendable, crosses) depth 60 fits 20000

pub one_sync : IsSync one.the_row
one_sync = search (name_sync, past_sync, document_sync, table_sync, sendable, crosses) depth 60 fits 20000

pub state_sync : IsSync state.the_row
state_sync = search (one_sync, sendable, crosses, maps.crosses) depth 60 fits 20000

pub taken_sync : IsSync taken.the_row
taken_sync = search (name_sync, delta_sync, sendable, crosses, maps.crosses) depth 60 fits 20000

-- commands that owners on several threads have together
pub commands_send : IsSend batch.the_row
commands_send = search (taken_send, taken_sync, sendable, crosses, maps.crosses) depth 60 fits 20000

pub shown_sync : (T : RattleType) (s : life.Ghosts T.Denot) (l : ledger.Ghosts T.Denot) → IsSync T → IsSync (shown.the_row T s l)
shown_sync T s l b = search (state_sync, seen.the_sync, sendable, crosses) depth 60 fits 20000

pub shown_send : (T : RattleType) (s : life.Ghosts T.Denot) (l : ledger.Ghosts T.Denot) → IsSend T → IsSend (shown.the_row T s l)
shown_send T s l a = search (state_send, seen.the_send, sendable, crosses) depth 60 fits 20000

pub viewer_send : (D T : RattleType) (s : life.Ghosts T.Denot) (l : ledger.Ghosts T.Denot) → IsSend T → IsSync T → IsSend (viewer.the_row D T s l)
viewer_send D T s l a b =
    let x = shown_sync T s l b in let y = shown_send T s l a in
    search (seen.the_send, part.the_send, place.the_send, table.the_send, table.the_sync, lease.the_send, lease.the_sync, frees, sendable, crosses) depth 40 fits 20000
