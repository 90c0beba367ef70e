use Rattle.std.proofs.Common.{◌≡◌, ◌-◌, Some, get_or, rules, arith}
use Rattle.session.proofs.Kept.{goes_on_down}
use Rattle.session.proofs.subscriptions.keep_last.Goals as goal

pub loop-left-preserved-in-Some : goal.loop-left-preserved-in-Some
loop-left-preserved-in-Some c =
    let so_far = c.loop-left.invariant in
    let left = c.loop-left.left in
    let is : Some c.in-Some.revision ≡ get_or c.args.last.now (left - 1) (Some c.in-Some.revision) = search rules in
    record {
      within = omega (arith, so_far.within);
      done = goes_on_down c.args.list.now.items c.loop-left.list.items c.args.last.now left (omega (arith, c.loop-left-test.true)) so_far.within c.requires so_far.done
          c.index_mut.result.now c.in-Some.revision c.index_mut.ensures.value is;
    }
