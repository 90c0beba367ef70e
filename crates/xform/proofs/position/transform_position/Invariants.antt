use Rattle.std.proofs.Common.{drop}
use Rattle.delta.specs.Gaps.{counted}
use Rattle.xform.specs.Place.{place}
use Rattle.xform.proofs.Places.{Stands}
use Rattle.xform.proofs.position.transform_position.Given as goal

abbrev pub invariant-loop-op : goal.invariant-loop-op
invariant-loop-op l = Stands l.place l.before (drop l.op-index l.ops) l.priority (place (counted l.ops) l.fn.index l.priority)
