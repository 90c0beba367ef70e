use Rattle.std.proofs.Common.{◌≡◌, ◌≤◌, ◌++◌, length, take, drop}
use Rattle.session.specs.News.{going_on}
use Rattle.session.proofs.subscriptions.keep_last.Given as goal

-- the entries from here on are done
abbrev pub invariant-loop-left : goal.invariant-loop-left
invariant-loop-left l =
    let old = l.fn.list.items in
    record { within : l.left ≤ length old; done : l.list.items ≡ take l.left old ++ going_on (drop l.left old) (drop l.left l.last) }

abbrev pub decreases-loop-left : goal.decreases-loop-left
decreases-loop-left l = l.left
