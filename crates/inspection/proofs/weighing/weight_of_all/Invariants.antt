use Rattle.std.proofs.Common.{◌≡◌, ◌≤◌, ◌+◌, ◌-◌, ◌^◌, drop, min}
use Rattle.revision.specs.Sources.{total_of}
use Rattle.revision.specs.State.{window_weight}
use Rattle.inspection.proofs.weighing.weight_of_all.Given as goal

-- with those that are left it comes to what they all do
abbrev pub invariant-loop-window : goal.invariant-loop-window
invariant-loop-window l = record {
  range : l.weight ≤ 2 ^ 64 - 1;
  all : min (l.weight + total_of (window_weight l.limits) (drop l.window-index l.entries)) (2 ^ 64 - 1)
      ≡ min (total_of (window_weight l.limits) l.entries) (2 ^ 64 - 1);
}
