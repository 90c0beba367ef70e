-- What a past of the program keeps, without where it lies in memory.
use Rattle.revision.specs.declared.past.Past.TheInside.{Inside}
use Rattle.revision.specs.Past.{Parts}

abbrev pub parts_of : Inside → Parts
parts_of p = record {
  start = p.start;
  floor = p.floor;
  units = p.document;
  sources = p.sources;
  takers = p.takers.items;
  deltas = p.deltas.items;
  count = p.count;
  kept = p.kept.items;
  live = p.live;
}
