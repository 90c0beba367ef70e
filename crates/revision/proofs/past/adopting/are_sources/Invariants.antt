use Rattle.std.proofs.Common.{◌≡◌, drop}
use Rattle.revision.specs.State.{are_sources}
use Rattle.revision.proofs.past.adopting.are_sources.Given as goal

-- those that are left decide
abbrev pub invariant-loop-window : goal.invariant-loop-window
invariant-loop-window l = are_sources l.revision (drop l.window-index l.entries) ≡ are_sources l.revision l.entries
