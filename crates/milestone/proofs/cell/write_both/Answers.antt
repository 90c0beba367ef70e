use Rattle.std.proofs.Common.{refl, arith}
use Rattle.std.specs.Prelude.{◌+◌, ◌≤◌, length, ℕ}
use Rattle.disk.specs.Crash.{history_of, Leaves}
use Rattle.disk.specs.Device.{History, IsWrite, IsAtMostOneStep}
use Rattle.disk.proofs.CallerLemmas.{begins_anywhere, goes_on_write, same_outside_wider, same_outside_then}
use Rattle.milestone.specs.LeftOutside.{IsLeftOutside}
use Rattle.milestone.proofs.cell.write_both.Goals as goal

started : (place size : ℕ) (old : History) → Leaves (IsLeftOutside place size old.now) old old
started place size old = begins_anywhere old (λ content left. record { before = content; left = left; outside = record { same_length = refl; before = refl; after = refl } })

-- one write more within the range
further : {place size at count : ℕ} {old mid new : History} → Leaves (IsLeftOutside place size old.now) old mid → IsAtMostOneStep (IsWrite at count) mid new
    → at + count ≤ length mid.now.seen → place ≤ at → at + count ≤ place + size → Leaves (IsLeftOutside place size old.now) old new
further {place} {size} {at} {count} {old} {mid} {new} so_far time fits from to =
    goes_on_write so_far time fits (λ before content left same.
    let was = so_far.last before left in
    record {
      before = was.before;
      left = was.left;
      outside = same_outside_then place size was.before before content was.outside (same_outside_wider place size at count before content from to same);
    })

pub returns-in_err-write_at-clause-any_moment : goal.returns-in_err-write_at-clause-any_moment
returns-in_err-write_at-clause-any_moment g c =
    further (started c.args.place _ (history_of g.D.Disk c.args.disk.now)) c.write_at.ensures.time (omega (arith, c.requires.within)) (omega arith) (omega arith)

pub returns-in_err-write_at-2-clause-any_moment : goal.returns-in_err-write_at-2-clause-any_moment
returns-in_err-write_at-2-clause-any_moment g c =
    further (further (started c.args.place _ (history_of g.D.Disk c.args.disk.now)) c.write_at.ensures.time (omega (arith, c.requires.within)) (omega arith) (omega arith))
    c.write_at-2.ensures.time (omega (arith, c.requires.within, c.write_at.ensures.length)) (omega arith) (omega arith)

pub returns-clause-any_moment : goal.returns-clause-any_moment
returns-clause-any_moment g c =
    further (further (started c.args.place _ (history_of g.D.Disk c.args.disk.now)) c.write_at.ensures.time (omega (arith, c.requires.within)) (omega arith) (omega arith))
    c.write_at-2.ensures.time (omega (arith, c.requires.within, c.write_at.ensures.length)) (omega arith) (omega arith)
