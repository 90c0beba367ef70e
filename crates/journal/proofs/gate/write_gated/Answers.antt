use Rattle.std.proofs.Common.{refl, arith}
use Rattle.disk.specs.Crash.{history_of}
use Rattle.disk.proofs.CallerLemmas.{goes_on_sync}
use Rattle.journal.proofs.Gated.{behind, kept, opened, one_more}
use Rattle.journal.proofs.Counting.{write_syncs, sync_syncs, last_sync}
use Rattle.journal.proofs.gate.write_gated.Goals as goal

pub returns-in_err-write_at-clause-any_moment : goal.returns-in_err-write_at-clause-any_moment
returns-in_err-write_at-clause-any_moment g c synced =
    behind _ _ _ c.requires.fits (history_of g.D.Disk c.args.disk.now) (history_of g.D.Disk c.write_at.new.self) refl synced c.write_at.ensures.time

pub returns-in_err-sync-clause-any_moment : goal.returns-in_err-sync-clause-any_moment
returns-in_err-sync-clause-any_moment g c synced =
    goes_on_sync (behind _ _ _ c.requires.fits (history_of g.D.Disk c.args.disk.now) (history_of g.D.Disk c.write_at.new.self) refl synced c.write_at.ensures.time) c.sync.ensures.time

pub returns-in_err-write_at-2-clause-any_moment : goal.returns-in_err-write_at-2-clause-any_moment
returns-in_err-write_at-2-clause-any_moment g c synced =
    let rests = kept _ _ _ c.requires.fits (history_of g.D.Disk c.args.disk.now) (history_of g.D.Disk c.write_at.new.self) (history_of g.D.Disk c.sync.new.self) refl synced c.write_at.ensures.time
    c.in_ok-write_at.ensures.written c.sync.ensures.time c.sync.ensures.seen c.in_ok-sync.ensures.closed in
    opened _ _ _ c.requires.fits _ _ (history_of g.D.Disk c.write_at-2.new.self) rests c.write_at-2.ensures.time

pub returns-clause-any_moment : goal.returns-clause-any_moment
returns-clause-any_moment g c synced =
    let rests = kept _ _ _ c.requires.fits (history_of g.D.Disk c.args.disk.now) (history_of g.D.Disk c.write_at.new.self) (history_of g.D.Disk c.sync.new.self) refl synced c.write_at.ensures.time
    c.in_ok-write_at.ensures.written c.sync.ensures.time c.sync.ensures.seen c.in_ok-sync.ensures.closed in
    goes_on_sync (opened _ _ _ c.requires.fits _ _ (history_of g.D.Disk c.write_at-2.new.self) rests c.write_at-2.ensures.time) c.sync-2.ensures.time

-- each call is one moment at most
pub returns-in_err-write_at-clause-calls : goal.returns-in_err-write_at-clause-calls
returns-in_err-write_at-clause-calls g c = omega (arith, one_more c.write_at.ensures.time)

pub returns-in_err-sync-clause-calls : goal.returns-in_err-sync-clause-calls
returns-in_err-sync-clause-calls g c = omega (arith, one_more c.write_at.ensures.time, one_more c.sync.ensures.time)

pub returns-in_err-write_at-2-clause-calls : goal.returns-in_err-write_at-2-clause-calls
returns-in_err-write_at-2-clause-calls g c = omega (arith, one_more c.write_at.ensures.time, one_more c.sync.ensures.time, one_more c.write_at-2.ensures.time)

pub returns-clause-calls : goal.returns-clause-calls
returns-clause-calls g c = omega (arith, one_more c.write_at.ensures.time, one_more c.sync.ensures.time, one_more c.write_at-2.ensures.time, one_more c.sync-2.ensures.time)

-- a call that fails is counted with it, and it is the last one
pub returns-in_err-write_at-clause-every_call : goal.returns-in_err-write_at-clause-every_call
returns-in_err-write_at-clause-every_call g c = omega (arith, one_more c.write_at.ensures.time, c.in_err-write_at.ensures.failed)

pub returns-in_err-sync-clause-every_call : goal.returns-in_err-sync-clause-every_call
returns-in_err-sync-clause-every_call g c =
    omega (arith, one_more c.write_at.ensures.time, one_more c.sync.ensures.time, c.in_ok-write_at.ensures.good.0, c.in_err-sync.ensures.failed)

pub returns-in_err-write_at-2-clause-every_call : goal.returns-in_err-write_at-2-clause-every_call
returns-in_err-write_at-2-clause-every_call g c =
    omega (
      arith,
      one_more c.write_at.ensures.time,
      one_more c.sync.ensures.time,
      one_more c.write_at-2.ensures.time,
      c.in_ok-write_at.ensures.good.0,
      c.in_ok-sync.ensures.good.0,
      c.in_err-write_at-2.ensures.failed,
    )

pub returns-clause-every_call : goal.returns-clause-every_call
returns-clause-every_call g c =
    let last = last_sync c.sync-2.result _ _ c.sync-2.ensures.time c.in_ok-write_at-2.ensures.opened c.sync-2.ensures.open c.sync-2.ensures.good c.sync-2.ensures.failed in
    omega (
      arith,
      one_more c.write_at.ensures.time,
      one_more c.sync.ensures.time,
      one_more c.write_at-2.ensures.time,
      c.in_ok-write_at.ensures.good.0,
      c.in_ok-sync.ensures.good.0,
      c.in_ok-write_at-2.ensures.good.0,
      last.0,
    )

-- and so it is with the syncs
pub returns-in_err-write_at-clause-syncs : goal.returns-in_err-write_at-clause-syncs
returns-in_err-write_at-clause-syncs g c = omega (arith, write_syncs c.write_at.ensures.time, c.in_err-write_at.ensures.failed)

pub returns-in_err-sync-clause-syncs : goal.returns-in_err-sync-clause-syncs
returns-in_err-sync-clause-syncs g c =
    omega (arith, write_syncs c.write_at.ensures.time, sync_syncs c.sync.ensures.time, c.in_ok-write_at.ensures.good.0, c.in_err-sync.ensures.failed)

pub returns-in_err-write_at-2-clause-syncs : goal.returns-in_err-write_at-2-clause-syncs
returns-in_err-write_at-2-clause-syncs g c =
    omega (
      arith,
      write_syncs c.write_at.ensures.time,
      sync_syncs c.sync.ensures.time,
      write_syncs c.write_at-2.ensures.time,
      c.in_ok-write_at.ensures.good.0,
      c.in_ok-sync.ensures.good.0,
      c.in_err-write_at-2.ensures.failed,
    )

pub returns-clause-syncs : goal.returns-clause-syncs
returns-clause-syncs g c =
    let last = last_sync c.sync-2.result _ _ c.sync-2.ensures.time c.in_ok-write_at-2.ensures.opened c.sync-2.ensures.open c.sync-2.ensures.good c.sync-2.ensures.failed in
    omega (
      arith,
      write_syncs c.write_at.ensures.time,
      sync_syncs c.sync.ensures.time,
      write_syncs c.write_at-2.ensures.time,
      c.in_ok-write_at.ensures.good.0,
      c.in_ok-sync.ensures.good.0,
      c.in_ok-write_at-2.ensures.good.0,
      last.1,
    )
