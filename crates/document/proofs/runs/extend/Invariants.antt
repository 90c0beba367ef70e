use Rattle.std.proofs.Common.{◌≡◌, ◌++◌, take}
use Rattle.document.proofs.runs.extend.Given as goal

abbrev pub invariant-loop-run : goal.invariant-loop-run
invariant-loop-run l = l.shared.items ≡ l.initial.shared.items ++ take l.run-index l.runs
