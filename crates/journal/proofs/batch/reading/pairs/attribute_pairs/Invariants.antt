use Rattle.std.proofs.Common.{◌≡◌, ◌-◌, []}
use denote.Shadow.{shadow}
use denote.Text.{Utf8}
use Rattle.attributes.specs.Map.{empty}
use Rattle.journal.specs.steps.DeltaReading.{pairs_at, value_at}
use Rattle.journal.proofs.batch.reading.pairs.attribute_pairs.Given as goal

-- what was read and what is left to read are all that is read
abbrev pub invariant-loop : goal.invariant-loop
invariant-loop l = record {
  text : shadow (Utf8 l.last);
  read : pairs_at value_at (l.count - l.counter) l.last l.attrs l.rest ≡ pairs_at value_at l.count [] empty l.bytes;
}
