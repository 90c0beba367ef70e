-- What a document weighs is within its limit.
use Rattle.std.proofs.Common.{◌+◌, ◌≤◌, arith}
use Rattle.document.specs.Weight as document
use Rattle.revision.specs.Invariants.{IsPast}
use Rattle.revision.specs.Past.{newest}
use Rattle.revision.specs.Sources.{total_of}
use Rattle.revision.specs.State.{Limits, DocumentRecord, units_of, sources_of, window_weight}

pub weight_held : (limits : Limits) (found : DocumentRecord) → IsPast limits found.past
    → document.weight_of (units_of found) + total_of (window_weight limits) (sources_of found).entries ≤ limits.weight
weight_held limits found is = (is.each (newest found.past) (omega arith) (omega arith)).weight
