use Rattle.std.proofs.Common.{◌≡◌, take}
use Rattle.session.proofs.due.copies_of.Given as goal

-- the deltas so far
abbrev pub invariant-loop-delta : goal.invariant-loop-delta
invariant-loop-delta l = l.copies.items ≡ take l.delta-index l.deltas
