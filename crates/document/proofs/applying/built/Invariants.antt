use Rattle.std.proofs.Common.{take, drop}
use Rattle.document.specs.Chunks.{units_of_chunks}
use Rattle.document.specs.steps.Passes.{StopsInPair}
use Rattle.document.specs.Runs.{units_of_runs, AreRuns}
use Rattle.document.proofs.Progress.{IsApplied}
use Rattle.document.proofs.applying.built.Given as goal

abbrev pub invariant-loop-op : goal.invariant-loop-op
invariant-loop-op l = record {
  applied : IsApplied (units_of_chunks l.chunks) l.cursor (take l.op-index l.ops) (units_of_runs l.made);
  whole : ¬ (StopsInPair l.cursor (drop l.op-index l.ops));
  runs : AreRuns l.made;
}
