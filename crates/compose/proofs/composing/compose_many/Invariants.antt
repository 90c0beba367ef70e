use Rattle.std.proofs.Common.{drop}
use Rattle.compose.proofs.ManyDeltas.{AreComposed}
use Rattle.compose.proofs.composing.compose_many.Given as goal

abbrev pub invariant-loop-delta : goal.invariant-loop-delta
invariant-loop-delta l = AreComposed l.deltas l.one (drop l.delta-index l.deltas)
