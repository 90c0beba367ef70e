use Rattle.std.proofs.Common.{inl}
use Rattle.disk.specs.Crash.{history_of}
use Rattle.disk.proofs.CallerLemmas.{begins, leaves_map, goes_on_run}
use Rattle.history.specs.Cell.{freed}
use Rattle.milestone.proofs.Freeing.{as_it_was}
use Rattle.milestone.proofs.Replacing.{replacing}
use Rattle.milestone.proofs.cells.Cells.replace_older.Goals as goal

-- nothing was called
pub returns-in_err-bytes-clause-any_moment : goal.returns-in_err-bytes-clause-any_moment
returns-in_err-bytes-clause-any_moment g c pair synced fits = begins (history_of g.D.Disk c.args.disk.now) synced (inl (inl (as_it_was _ _ pair fits c.requires.within)))

-- the older cell is closed, then the milestone put
pub returns-in_err-put_spelled-clause-any_moment : goal.returns-in_err-put_spelled-clause-any_moment
returns-in_err-put_spelled-clause-any_moment g c pair synced fits =
    let now = c.in_ok-free_older.ensures.done pair fits in
    goes_on_run (leaves_map (λ content left. inl left) (c.free_older.ensures.any_moment pair synced fits))
    (leaves_map (λ content left. replacing (g.D.Disk.seen c.args.disk.now) _ c.args.self.now _ pair now c.args.milestone.now content left)
    (c.put_spelled.ensures.any_moment (freed pair) (c.in_ok-free_older.ensures.synced synced) now.fits))

pub returns-clause-any_moment : goal.returns-clause-any_moment
returns-clause-any_moment g c pair synced fits =
    let now = c.in_ok-free_older.ensures.done pair fits in
    goes_on_run (leaves_map (λ content left. inl left) (c.free_older.ensures.any_moment pair synced fits))
    (leaves_map (λ content left. replacing (g.D.Disk.seen c.args.disk.now) _ c.args.self.now _ pair now c.args.milestone.now content left)
    (c.put_spelled.ensures.any_moment (freed pair) (c.in_ok-free_older.ensures.synced synced) now.fits))
