use Rattle.std.proofs.Common.{◌-◌, ◌≤◌, take, length}
use Rattle.attributes.specs.Place.{StandsBefore}
use Rattle.attributes.specs.Table.{AllBefore}
use Rattle.attributes.proofs.map.Map.search.Given as goal

-- what stands before the low end stands before the name, which stands before what stands at the high end
abbrev pub invariant-loop-low : goal.invariant-loop-low
invariant-loop-low g l = record {
  within : l.high ≤ length l.self.entries;
  order : l.low ≤ l.high;
  low : AllBefore l.name (take l.low l.self.entries);
  high : StandsBefore l.name l.self.entries l.high;
}

abbrev pub decreases-loop-low : goal.decreases-loop-low
decreases-loop-low g l = l.high - l.low
