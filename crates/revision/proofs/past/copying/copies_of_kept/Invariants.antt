use Rattle.std.proofs.Common.{◌≡◌, take}
use Rattle.revision.proofs.past.copying.copies_of_kept.Given as goal

abbrev pub invariant-loop-one : goal.invariant-loop-one
invariant-loop-one l = l.copies.items ≡ take l.one-index l.kept
