use Rattle.std.proofs.Common.{◌≡◌, take}
use Rattle.view.proofs.viewer.copied.Given as goal

abbrev pub invariant-loop-delta : goal.invariant-loop-delta
invariant-loop-delta l = l.copies.items ≡ take l.delta-index l.deltas
