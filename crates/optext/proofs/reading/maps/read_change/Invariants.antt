use Rattle.std.proofs.Common.{◌≡◌}
use Rattle.serde_json.specs.View.{members_view}
use Rattle.attributes.specs.Map.{empty}
use Rattle.optext.specs.Described.{with_members, change_of}
use Rattle.optext.proofs.reading.maps.read_change.Given as goal

-- the change so far, with_members with the members that are left, is that of all members
abbrev pub invariant-loop-name : goal.invariant-loop-name
invariant-loop-name l = with_members change_of l.change (members_view l.name-iterator) ≡ with_members change_of empty (members_view l.members.entries)
