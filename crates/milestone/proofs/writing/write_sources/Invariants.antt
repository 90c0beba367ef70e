use Rattle.std.proofs.Common.{◌≡◌, ◌++◌, length, take}
use Rattle.std.specs.Int.{w32}
use Rattle.std.specs.List.{flat_map}
use Rattle.journal.specs.Spelling.{number}
use Rattle.milestone.specs.CellSpelling.{Two, source}
use Rattle.milestone.proofs.writing.write_sources.Given as goal

-- the count is written, and each source so far
abbrev pub invariant-loop-entry : goal.invariant-loop-entry
invariant-loop-entry l =
    l.out.items ≡ l.fn.out.items ++ (number w32 (length l.entries) ++ flat_map (source Two) (take l.entry-index l.entries))
