use Rattle.serde_json.specs.Data.{Members}
use Rattle.optext.specs.Described.{change_of}
use Rattle.session.specs.steps.Tokened.{ReadsMembers, AreEntries}
use Rattle.session.proofs.tokened.attribute_maps.changes.Given as goal

-- the members so far are those of the map
abbrev pub invariant-loop : goal.invariant-loop
invariant-loop l = (found : Members) × ReadsMembers 0 l.initial.reader found l.reader × AreEntries change_of found l.change.entries
