use Rattle.std.proofs.Common.{◌∙◌, sym, subst}
use Rattle.std.proofs.lemmas.Result.{on_ok_weaker}
use Rattle.disk.specs.Crash.{history_of}
use Rattle.disk.proofs.CallerLemmas.{begins, goes_on_sync}
use Rattle.recovery.specs.Formatting.{IsUnformatted, IsPrepared, IsEmptyStore}
use Rattle.recovery.proofs.EmptyStores.{sync_prepared, write_gate, opened}
use Rattle.recovery.proofs.formatting.write_all.Goals as goal

pub returns-in_err-sync-clause-any_moment : goal.returns-in_err-sync-clause-any_moment
returns-in_err-sync-clause-any_moment g c synced unformatted =
    let at_start = begins {P = IsUnformatted} (history_of g.D.Disk c.args.disk.now) synced unformatted in
    sync_prepared (c.prepare.ensures.any_moment at_start.last) c.sync.ensures.time

pub returns-in_err-write_at-clause-any_moment : goal.returns-in_err-write_at-clause-any_moment
returns-in_err-write_at-clause-any_moment g c synced unformatted =
    let at_start = begins {P = IsUnformatted} (history_of g.D.Disk c.args.disk.now) synced unformatted in
    let is : IsPrepared c.args.shape.now (g.D.Disk.seen c.sync.new.self) = subst (IsPrepared c.args.shape.now) (sym c.sync.ensures.seen) c.in_ok-prepare.ensures.prepared in
    write_gate (sync_prepared (c.prepare.ensures.any_moment at_start.last) c.sync.ensures.time) c.in_ok-sync.ensures.closed c.requires.fits.in_range is c.write_at.ensures.time

pub returns-clause-any_moment : goal.returns-clause-any_moment
returns-clause-any_moment g c synced unformatted =
    let at_start = begins {P = IsUnformatted} (history_of g.D.Disk c.args.disk.now) synced unformatted in
    let is : IsPrepared c.args.shape.now (g.D.Disk.seen c.sync.new.self) = subst (IsPrepared c.args.shape.now) (sym c.sync.ensures.seen) c.in_ok-prepare.ensures.prepared in
    goes_on_sync (write_gate (sync_prepared (c.prepare.ensures.any_moment at_start.last) c.sync.ensures.time) c.in_ok-sync.ensures.closed c.requires.fits.in_range is c.write_at.ensures.time) c.sync-2.ensures.time

pub returns-clause-done : goal.returns-clause-done
returns-clause-done g c =
    let is : IsPrepared c.args.shape.now (g.D.Disk.seen c.sync.new.self) = subst (IsPrepared c.args.shape.now) (sym c.sync.ensures.seen) c.in_ok-prepare.ensures.prepared in
    let store : IsEmptyStore c.args.shape.now (g.D.Disk.seen c.sync-2.new.self) =
    subst (IsEmptyStore c.args.shape.now) (sym (c.sync-2.ensures.seen ∙ c.in_ok-write_at.ensures.written)) (opened c.args.shape.now (g.D.Disk.seen c.sync.new.self) c.requires.fits.in_range is) in
    on_ok_weaker c.sync-2.result (λ closed. store) c.sync-2.ensures.closed
