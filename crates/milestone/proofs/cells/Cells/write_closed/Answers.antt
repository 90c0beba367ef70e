use Rattle.std.proofs.Common.{inl, refl, arith, ◌+◌}
use Rattle.milestone.specs.Together.{IsFreedOr}
use Rattle.milestone.proofs.Freeing.{freeing_first, freeing_second, freed_first, freed_second}
use Rattle.milestone.proofs.Stepping.{nothing_called, write_wider, one_step, freed_left}
use Rattle.milestone.proofs.cells.Cells.write_closed.Goals as goal

-- nothing was called
pub returns-in_default-clause-any_moment : goal.returns-in_default-clause-any_moment
returns-in_default-clause-any_moment g c pair stand = nothing_called g.D.Disk c.args.self.now pair c.args.disk.now stand c.requires.end (IsFreedOr pair) (inl refl)

pub returns-in_default-2-clause-any_moment : goal.returns-in_default-2-clause-any_moment
returns-in_default-2-clause-any_moment g c pair stand = nothing_called g.D.Disk c.args.self.now pair c.args.disk.now stand c.requires.end (IsFreedOr pair) (inl refl)

-- the second cell is the older
pub returns-in_err-write_one-clause-any_moment : goal.returns-in_err-write_one-clause-any_moment
returns-in_err-write_one-clause-any_moment g c pair stand =
    one_step g.D.Disk c.args.self.now pair c.args.disk.now stand c.requires.end (IsFreedOr pair) (c.args.self.now.place + c.args.self.now.size) 1 c.write_one.new.disk c.write_one.ensures.any_moment
    (λ before content fits end agree same. freed_left before c.args.self.now pair content
    (freeing_second before c.args.self.now pair fits end c.in-Some-Some.first c.in-Some-Some.second c.in-Some-Some.is-0 c.in-Some-Some.is-1 c.if-second-first.true content same))

pub returns-in_err-write_one-clause-within : goal.returns-in_err-write_one-clause-within
returns-in_err-write_one-clause-within g c =
    write_wider g.D.Disk _ _ (c.args.self.now.place + c.args.self.now.size) 1 1 c.args.disk.now c.write_one.new.disk (omega arith) (omega (arith, c.args.self.now.size_low)) c.write_one.ensures.one

pub returns-in_ok-write_one-clause-any_moment : goal.returns-in_ok-write_one-clause-any_moment
returns-in_ok-write_one-clause-any_moment g c pair stand =
    one_step g.D.Disk c.args.self.now pair c.args.disk.now stand c.requires.end (IsFreedOr pair) (c.args.self.now.place + c.args.self.now.size) 1 c.write_one.new.disk c.write_one.ensures.any_moment
    (λ before content fits end agree same. freed_left before c.args.self.now pair content
    (freeing_second before c.args.self.now pair fits end c.in-Some-Some.first c.in-Some-Some.second c.in-Some-Some.is-0 c.in-Some-Some.is-1 c.if-second-first.true content same))

pub returns-in_ok-write_one-clause-within : goal.returns-in_ok-write_one-clause-within
returns-in_ok-write_one-clause-within g c =
    write_wider g.D.Disk _ _ (c.args.self.now.place + c.args.self.now.size) 1 1 c.args.disk.now c.write_one.new.disk (omega arith) (omega (arith, c.args.self.now.size_low)) c.write_one.ensures.one

pub returns-in_ok-write_one-clause-done : goal.returns-in_ok-write_one-clause-done
returns-in_ok-write_one-clause-done g c pair fits =
    freed_second (g.D.Disk.seen c.args.disk.now) c.args.self.now pair fits c.requires.end c.in-Some-Some.first c.in-Some-Some.second c.in-Some-Some.is-0 c.in-Some-Some.is-1 c.if-second-first.true
    (g.D.Disk.seen c.write_one.new.disk) _ c.in_ok-write_one.ensures.written refl refl refl refl refl

-- the first cell is the older
pub returns-in_err-write_one-2-clause-any_moment : goal.returns-in_err-write_one-2-clause-any_moment
returns-in_err-write_one-2-clause-any_moment g c pair stand =
    one_step g.D.Disk c.args.self.now pair c.args.disk.now stand c.requires.end (IsFreedOr pair) c.args.self.now.place 1 c.write_one-else-second-first.new.disk c.write_one-else-second-first.ensures.any_moment
    (λ before content fits end agree same. freed_left before c.args.self.now pair content
    (freeing_first before c.args.self.now pair fits end c.in-Some-Some.first c.in-Some-Some.second c.in-Some-Some.is-0 c.in-Some-Some.is-1 c.if-second-first.false content same))

pub returns-in_err-write_one-2-clause-within : goal.returns-in_err-write_one-2-clause-within
returns-in_err-write_one-2-clause-within g c =
    write_wider g.D.Disk _ _ c.args.self.now.place 1 1 c.args.disk.now c.write_one-else-second-first.new.disk (omega arith) (omega (arith, c.args.self.now.size_low)) c.write_one-else-second-first.ensures.one

pub returns-in_ok-write_one-2-clause-any_moment : goal.returns-in_ok-write_one-2-clause-any_moment
returns-in_ok-write_one-2-clause-any_moment g c pair stand =
    one_step g.D.Disk c.args.self.now pair c.args.disk.now stand c.requires.end (IsFreedOr pair) c.args.self.now.place 1 c.write_one-else-second-first.new.disk c.write_one-else-second-first.ensures.any_moment
    (λ before content fits end agree same. freed_left before c.args.self.now pair content
    (freeing_first before c.args.self.now pair fits end c.in-Some-Some.first c.in-Some-Some.second c.in-Some-Some.is-0 c.in-Some-Some.is-1 c.if-second-first.false content same))

pub returns-in_ok-write_one-2-clause-within : goal.returns-in_ok-write_one-2-clause-within
returns-in_ok-write_one-2-clause-within g c =
    write_wider g.D.Disk _ _ c.args.self.now.place 1 1 c.args.disk.now c.write_one-else-second-first.new.disk (omega arith) (omega (arith, c.args.self.now.size_low)) c.write_one-else-second-first.ensures.one

pub returns-in_ok-write_one-2-clause-done : goal.returns-in_ok-write_one-2-clause-done
returns-in_ok-write_one-2-clause-done g c pair fits =
    freed_first (g.D.Disk.seen c.args.disk.now) c.args.self.now pair fits c.requires.end c.in-Some-Some.first c.in-Some-Some.second c.in-Some-Some.is-0 c.in-Some-Some.is-1 c.if-second-first.false
    (g.D.Disk.seen c.write_one-else-second-first.new.disk) _ c.in_ok-write_one-2.ensures.written refl refl refl refl refl
