use Rattle.std.proofs.Common.{refl, rules}
use Rattle.disk.specs.Crash.{history_of}
use Rattle.disk.proofs.CallerLemmas.{begins, goes_on_first_write, goes_on_sync}
use Rattle.milestone.proofs.cell.close.Goals as goal

pub returns-in_err-write_at-clause-any_moment : goal.returns-in_err-write_at-clause-any_moment
returns-in_err-write_at-clause-any_moment g c synced =
    let first = begins (history_of g.D.Disk c.args.disk.now) synced (record { same_length = refl; before = refl; after = refl }) in
    goes_on_first_write first synced c.write_at.ensures.time (search rules) (λ content same. same)

pub returns-in_err-sync-clause-any_moment : goal.returns-in_err-sync-clause-any_moment
returns-in_err-sync-clause-any_moment g c synced =
    let first = begins (history_of g.D.Disk c.args.disk.now) synced (record { same_length = refl; before = refl; after = refl }) in
    goes_on_sync (goes_on_first_write first synced c.write_at.ensures.time (search rules) (λ content same. same)) c.sync.ensures.time

pub returns-clause-any_moment : goal.returns-clause-any_moment
returns-clause-any_moment g c synced =
    let first = begins (history_of g.D.Disk c.args.disk.now) synced (record { same_length = refl; before = refl; after = refl }) in
    goes_on_sync (goes_on_first_write first synced c.write_at.ensures.time (search rules) (λ content same. same)) c.sync.ensures.time
