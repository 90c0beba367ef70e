use Rattle.std.proofs.Common.{◌≡◌, ◌++◌, length}
use denote.Shadow.{shadow}
use denote.Text.{Utf8}
use Rattle.std.specs.Int.{w32}
use Rattle.std.specs.List.{flat_map, AllByRecursion}
use Rattle.journal.specs.Spelling.{number}
use Rattle.milestone.specs.CellSpelling.{source}
use Rattle.milestone.specs.steps.Reading.{IsSource}
use Rattle.milestone.proofs.Order.{IsLast}
use Rattle.milestone.proofs.reading.sources.Given as goal

-- the count, each source so far in the order of names, and then what is left
abbrev pub invariant-loop : goal.invariant-loop
invariant-loop l = record {
  text : shadow (Utf8 l.last);
  split : l.bytes ≡ number w32 l.count ++ (flat_map (source l.format) l.sources.entries ++ l.rest);
  counted : length l.sources.entries ≡ l.counter;
  each : AllByRecursion (IsSource l.format l.revision) l.sources.entries;
  is_last : IsLast l.sources.entries l.last;
}
