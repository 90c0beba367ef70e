use Rattle.std.proofs.Common.{arith}
use Rattle.disk.specs.Crash.{history_of}
use Rattle.milestone.proofs.Stepping.{one_left, one_write}
use Rattle.milestone.proofs.cell.write_one.Goals as goal

pub returns-in_err-write_at-clause-any_moment : goal.returns-in_err-write_at-clause-any_moment
returns-in_err-write_at-clause-any_moment g c = one_left _ _ (history_of g.D.Disk c.args.disk.now) (history_of g.D.Disk c.write_at.new.self) c.write_at.ensures.time c.requires.within

pub returns-in_err-write_at-clause-one : goal.returns-in_err-write_at-clause-one
returns-in_err-write_at-clause-one g c =
    one_write g.D.Disk _ _ c.args.disk.now c.write_at.new.self c.write_at.ensures.time (omega (arith, c.in_err-write_at.ensures.failed)) c.write_at.ensures.honest

pub returns-clause-any_moment : goal.returns-clause-any_moment
returns-clause-any_moment g c = one_left _ _ (history_of g.D.Disk c.args.disk.now) (history_of g.D.Disk c.write_at.new.self) c.write_at.ensures.time c.requires.within

pub returns-clause-one : goal.returns-clause-one
returns-clause-one g c =
    one_write g.D.Disk _ _ c.args.disk.now c.write_at.new.self c.write_at.ensures.time (omega (arith, c.in_ok-write_at.ensures.good.0)) c.write_at.ensures.honest
