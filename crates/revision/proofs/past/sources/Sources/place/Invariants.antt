use Rattle.std.proofs.Common.{◌-◌, ◌≤◌, take, length}
use Rattle.attributes.specs.Table.{AllBefore}
use Rattle.revision.proofs.Halves.{AboveAt}
use Rattle.revision.proofs.past.sources.Sources.place.Given as goal

-- what stands before the low end stands before the name, and what stands at the high end stands after it
abbrev pub invariant-loop-low : goal.invariant-loop-low
invariant-loop-low l = record {
  within : l.high ≤ length l.self.entries;
  order : l.low ≤ l.high;
  before : AllBefore l.name (take l.low l.self.entries);
  above : AboveAt l.name l.self.entries l.high;
}

abbrev pub decreases-loop-low : goal.decreases-loop-low
decreases-loop-low l = l.high - l.low
