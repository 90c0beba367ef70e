use Rattle.std.proofs.Common.{inl}
use Rattle.disk.specs.Crash.{history_of}
use Rattle.disk.proofs.CallerLemmas.{leaves_seen, begins, goes_on_run, leaves_map}
use Rattle.recovery.specs.Formatting.{IsUnformatted, IsUnformattedOrBegun}
use Rattle.recovery.proofs.formatting.write_with.Goals as goal

pub returns-in_err-prepare-clause-any_moment : goal.returns-in_err-prepare-clause-any_moment
returns-in_err-prepare-clause-any_moment g c synced unformatted =
    let at_start = begins {P = IsUnformatted} (history_of g.D.Disk c.args.disk.now) synced unformatted in
    leaves_map {Q = IsUnformattedOrBegun c.args.shape.now c.args.milestones.now} (λ content closed. inl closed) (c.prepare.ensures.any_moment at_start.last)

pub returns-in_err-put_first-clause-any_moment : goal.returns-in_err-put_first-clause-any_moment
returns-in_err-put_first-clause-any_moment g c synced unformatted =
    let at_start = begins {P = IsUnformatted} (history_of g.D.Disk c.args.disk.now) synced unformatted in
    let first = c.prepare.ensures.any_moment at_start.last in
    leaves_map {Q = IsUnformattedOrBegun c.args.shape.now c.args.milestones.now} (λ content closed. inl closed) (goes_on_run first (c.put_first.ensures.any_moment first.last))

pub returns-in_err-put_first-clause-memory : goal.returns-in_err-put_first-clause-memory
returns-in_err-put_first-clause-memory g c is synced unformatted =
    let at_start = begins {P = IsUnformatted} (history_of g.D.Disk c.args.disk.now) synced unformatted in
    let first = c.prepare.ensures.any_moment at_start.last in
    (c.put_first.ensures.any_moment first.last).last _ (leaves_seen (history_of g.D.Disk c.put_first.new.disk).now)

pub returns-in_err-open_superblock-clause-any_moment : goal.returns-in_err-open_superblock-clause-any_moment
returns-in_err-open_superblock-clause-any_moment g c synced unformatted =
    let at_start = begins {P = IsUnformatted} (history_of g.D.Disk c.args.disk.now) synced unformatted in
    let first = c.prepare.ensures.any_moment at_start.last in
    let second = goes_on_run first (c.put_first.ensures.any_moment first.last) in
    goes_on_run (leaves_map {Q = IsUnformattedOrBegun c.args.shape.now c.args.milestones.now} (λ content closed. inl closed) second) (c.open_superblock.ensures.any_moment second.last)

pub returns-clause-any_moment : goal.returns-clause-any_moment
returns-clause-any_moment g c synced unformatted =
    let at_start = begins {P = IsUnformatted} (history_of g.D.Disk c.args.disk.now) synced unformatted in
    let first = c.prepare.ensures.any_moment at_start.last in
    let second = goes_on_run first (c.put_first.ensures.any_moment first.last) in
    goes_on_run (leaves_map {Q = IsUnformattedOrBegun c.args.shape.now c.args.milestones.now} (λ content closed. inl closed) second) (c.open_superblock.ensures.any_moment second.last)
