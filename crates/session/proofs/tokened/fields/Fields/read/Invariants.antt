use Rattle.std.proofs.Common.{◌≡◌}
use Rattle.serde_json.specs.Data.{Members}
use Rattle.serde_json.specs.Events.{members_len}
use Rattle.session.specs.steps.Tokened.{ReadsMembers, AreFields}
use Rattle.session.proofs.tokened.fields.Fields.read.Given as goal

-- the members so far are those that were read
abbrev pub invariant-loop : goal.invariant-loop
invariant-loop l = (members : Members) × AreFields l.fields members × (members_len members ≡ l.counter) × ReadsMembers 3 l.initial.reader members l.reader
