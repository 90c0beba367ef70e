use Rattle.std.proofs.Common.{◌≡◌, Some, refl, ap, arith}
use Rattle.json.specs.Json.{read_key}
use Rattle.serde_json.specs.Data.{object, no_members, put}
use Rattle.serde_json.specs.Events.{members_len}
use Rattle.session.proofs.Objects.{no_member_yet, member_more, members_end}
use Rattle.session.proofs.EditFields.{members_len-put}
use Rattle.session.proofs.tokened.fields.Fields.read.Goals as goal

pub loop-init : goal.loop-init
loop-init c = (no_members, record { kind = refl; doc = refl; numbered = refl; base = refl; delta = refl }, refl, no_member_yet 3 c.begin_object.new.reader)

pub loop-preserved : goal.loop-preserved
loop-preserved c =
    let members = c.loop.invariant.0 in
    let name = c.in-Some.name.now in
    let adds = c.in_ok-take.ensures members c.loop.invariant.1 in
    let counted = members_len-put name adds.1.0 members adds.0 in
    let named : read_key c.loop.reader ≡ Some (Some name, c.next_name.new.reader) = grind arith in (
      put name adds.1.0 members,
      adds.1.1,
      omega (arith, counted, c.loop.invariant.2),
      member_more 3 c.begin_object.new.reader c.loop.reader c.next_name.new.reader c.take.new.reader members name adds.1.0 c.loop.invariant.3 named adds.1.2,
    )

pub returns : goal.returns
returns c =
    let members = c.loop.invariant.0 in
    let len : members_len members ≡ 5 = omega (arith, c.loop.invariant.2, c.loop-test.false, c.loop.auto.counter-end) in (
      object members,
      (members, refl, c.loop.invariant.1, len),
      rw c.in_ok-begin_object.ensures (members_end 3 c.begin_object.new.reader c.loop.reader c.end_object.new.reader members c.loop.invariant.3 (ap read_key c.in_ok-end_object.ensures)),
    )
