use Rattle.std.proofs.Common.{◌≡◌, ◌++◌, map, take, drop, false}
use Rattle.std.specs.Prelude.{replicate}
use Rattle.hub.specs.Waiting.{is_covered, still_awaited}
use Rattle.hub.proofs.waiting.covered.Given as goal

abbrev pub invariant-loop-i : goal.invariant-loop-i
invariant-loop-i l = record {
  covered : l.told ≡ map (is_covered l.settled) (take l.i l.fn.awaited) ++ drop l.i (replicate 64 false);
  awaited : l.awaited ≡ map (still_awaited l.settled) (take l.i l.fn.awaited) ++ drop l.i l.fn.awaited;
}
