use Rattle.std.proofs.Common.{◌≡◌, map, take}
use Rattle.std.specs.Io.KnownBytes.{Appends}
use Rattle.revision.specs.Pending.{record_of}
use Rattle.inspection.specs.Filled as spec
use Rattle.inspection.proofs.lines.documents.Given as goal

-- the lines of the documents so far are written, and no write has failed
abbrev pub invariant-loop-document : goal.invariant-loop-document
invariant-loop-document g l =
    record {
      written : Appends (g.O.Output.contents l.fn.output) (g.O.Output.contents l.output) (spec.lines_of l.fn.state.limits (map record_of (take l.document-index l.document-items)));
      works : g.O.Output.has_failed l.output ≡ g.O.Output.has_failed l.fn.output;
    }
