use Rattle.std.proofs.Common.{◌≡◌, drop}
use Rattle.xform.specs.After.{second_past_all}
use Rattle.xform.specs.Outcome.{CanPassAll}
use Rattle.xform.proofs.moving.move_past_all.Given as goal

-- what is on its way, past those that are left, is the second past all of them
abbrev pub invariant-loop-first : goal.invariant-loop-first
invariant-loop-first l = record {
  so_far : second_past_all (drop l.first-index l.firsts) l.moving ≡ second_past_all l.firsts l.fn.second;
  can : CanPassAll (drop l.first-index l.firsts) l.moving → CanPassAll l.firsts l.fn.second;
  could : CanPassAll l.firsts l.fn.second → CanPassAll (drop l.first-index l.firsts) l.moving;
}
