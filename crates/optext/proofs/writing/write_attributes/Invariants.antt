use Rattle.std.proofs.Common.{◌≡◌, take}
use Rattle.std.specs.Prelude.{All}
use Rattle.serde_json.specs.View.{members_view}
use Rattle.optext.specs.Laws.{IsAttribute}
use Rattle.optext.specs.Printed.{printed_entries, printed_scalar}
use Rattle.optext.proofs.writing.write_attributes.Given as goal

-- the members so far print the entries so far, which have names and values that may stand there
abbrev pub invariant-loop-name : goal.invariant-loop-name
invariant-loop-name l = record {
  printed : members_view l.members.entries ≡ printed_entries printed_scalar (take l.name-index l.attrs.entries);
  kept : All IsAttribute (take l.name-index l.attrs.entries);
}
