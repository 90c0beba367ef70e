use Rattle.std.proofs.Common.{inl, refl}
use Rattle.disk.specs.Crash.{history_of}
use Rattle.disk.proofs.CallerLemmas.{begins, leaves_map}
use Rattle.milestone.proofs.Freeing.{as_it_was, freeing_first, freeing_second, freed_first, freed_second}
use Rattle.milestone.proofs.cells.Cells.free_older.Goals as goal

-- nothing was called
pub returns-in_default-clause-any_moment : goal.returns-in_default-clause-any_moment
returns-in_default-clause-any_moment g c pair synced fits = begins (history_of g.D.Disk c.args.disk.now) synced (inl (as_it_was _ _ pair fits c.requires.within))

pub returns-in_default-2-clause-any_moment : goal.returns-in_default-2-clause-any_moment
returns-in_default-2-clause-any_moment g c pair synced fits = begins (history_of g.D.Disk c.args.disk.now) synced (inl (as_it_was _ _ pair fits c.requires.within))

-- the second cell is the older
pub returns-in_err-close-clause-any_moment : goal.returns-in_err-close-clause-any_moment
returns-in_err-close-clause-any_moment g c pair synced fits =
    leaves_map (λ content same.
    freeing_second (g.D.Disk.seen c.args.disk.now) c.args.self.now pair fits c.requires.within c.in-Some-Some.first c.in-Some-Some.second c.in-Some-Some.is-0 c.in-Some-Some.is-1 c.if-second-first.true content same)
    (c.close.ensures.any_moment synced)

pub returns-in_ok-close-clause-any_moment : goal.returns-in_ok-close-clause-any_moment
returns-in_ok-close-clause-any_moment g c pair synced fits =
    leaves_map (λ content same.
    freeing_second (g.D.Disk.seen c.args.disk.now) c.args.self.now pair fits c.requires.within c.in-Some-Some.first c.in-Some-Some.second c.in-Some-Some.is-0 c.in-Some-Some.is-1 c.if-second-first.true content same)
    (c.close.ensures.any_moment synced)

pub returns-in_ok-close-clause-done : goal.returns-in_ok-close-clause-done
returns-in_ok-close-clause-done g c pair fits =
    freed_second (g.D.Disk.seen c.args.disk.now) c.args.self.now pair fits c.requires.within c.in-Some-Some.first c.in-Some-Some.second c.in-Some-Some.is-0 c.in-Some-Some.is-1 c.if-second-first.true
    (g.D.Disk.seen c.close.new.disk) _ c.in_ok-close.ensures.seen refl refl refl refl refl

-- the first cell is the older
pub returns-in_err-close-2-clause-any_moment : goal.returns-in_err-close-2-clause-any_moment
returns-in_err-close-2-clause-any_moment g c pair synced fits =
    leaves_map (λ content same.
    freeing_first (g.D.Disk.seen c.args.disk.now) c.args.self.now pair fits c.requires.within c.in-Some-Some.first c.in-Some-Some.second c.in-Some-Some.is-0 c.in-Some-Some.is-1 c.if-second-first.false content same)
    (c.close-else-second-first.ensures.any_moment synced)

pub returns-in_ok-close-2-clause-any_moment : goal.returns-in_ok-close-2-clause-any_moment
returns-in_ok-close-2-clause-any_moment g c pair synced fits =
    leaves_map (λ content same.
    freeing_first (g.D.Disk.seen c.args.disk.now) c.args.self.now pair fits c.requires.within c.in-Some-Some.first c.in-Some-Some.second c.in-Some-Some.is-0 c.in-Some-Some.is-1 c.if-second-first.false content same)
    (c.close-else-second-first.ensures.any_moment synced)

pub returns-in_ok-close-2-clause-done : goal.returns-in_ok-close-2-clause-done
returns-in_ok-close-2-clause-done g c pair fits =
    freed_first (g.D.Disk.seen c.args.disk.now) c.args.self.now pair fits c.requires.within c.in-Some-Some.first c.in-Some-Some.second c.in-Some-Some.is-0 c.in-Some-Some.is-1 c.if-second-first.false
    (g.D.Disk.seen c.close-else-second-first.new.disk) _ c.in_ok-close-2.ensures.seen refl refl refl refl refl
