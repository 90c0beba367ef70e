use Rattle.std.proofs.Common.{◌≡◌, ◌+◌, ◌++◌, length}
use Rattle.std.specs.Prelude.{All, sum_by}
use Rattle.std.specs.Vec.Iter.{into_iter_items}
use mathlib.Core.List.{IsPrefix}
use Rattle.server_threads.proofs.desks.tally_desks.Given as goal

-- the desks so far are tallied, where each was told of no more of what is published than the one token has, and found no more of the order than the
-- other one
abbrev pub invariant-loop-desk : goal.invariant-loop-desk
invariant-loop-desk g l = record {
  others : l.yielded ++ into_iter_items l.desk-iterator ≡ l.fn.desks.items;
  seats : l.tally.seats ≡ l.fn.tally.seats + length l.yielded;
  counted : l.tally.counted ≡ l.fn.tally.counted + sum_by (λ desk. desk.counted) l.yielded;
  told : All (λ desk. IsPrefix desk.told l.told) l.yielded;
  found : All (λ desk. IsPrefix desk.found l.ordered) l.yielded;
}
