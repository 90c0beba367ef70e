use Rattle.std.proofs.Common.{◌≡◌, ℕ, List, Some, None, sym, ap, subst, ◌∙◌, arith}
use Rattle.json.specs.Json.{read_key}
use Rattle.serde_json.specs.Data.{object, no_members, put}
use Rattle.attributes.specs.Map.{insert}
use Rattle.attributes.specs.Attributes.{Attributes, IsKey}
use Rattle.optext.specs.Described.{scalar_of}
use Rattle.session.specs.steps.Tokened.{AreEntries}
use Rattle.session.proofs.Objects.{no_member_yet, member_more, members_end}
use Rattle.session.proofs.Entries.{described_by-entries, entries-insert}
use Rattle.session.proofs.ScalarTokens.{kept}
use Rattle.session.proofs.tokened.attribute_maps.attributes.Goals as goal

pub loop-init : goal.loop-init
loop-init c = (
  no_members,
  no_member_yet 0 c.begin_object.new.reader,
  subst (λ (m : Attributes). AreEntries scalar_of no_members m.entries) (sym c.new-attrs.ensures) tt,
)

pub returns-in_default : goal.returns-in_default
returns-in_default c =
    let found = c.loop.invariant.0 in
    let ends : read_key c.loop.reader ≡ Some (None, c.next_name.new.reader) = grind arith in (
      object found,
      described_by-entries scalar_of c.loop.attrs found c.loop.invariant.2,
      rw c.in_ok-begin_object.ensures (members_end 0 c.begin_object.new.reader c.loop.reader c.next_name.new.reader found c.loop.invariant.1 ends),
    )

pub loop-preserved : goal.loop-preserved
loop-preserved c =
    let found = c.loop.invariant.0 in
    let name = c.in-Some.name.now in
    let spells = c.in_ok-value.ensures in
    let named : read_key c.loop.reader ≡ Some (Some name, c.next_name.new.reader) = grind arith in
    let is_key : IsKey name = kept (λ _. IsKey name) c.new.result c.in_ok-key.key c.in_ok-key.ensures.value c.new.ensures.kept in
    let same_key : c.in_ok-key.key ≡ name = kept (λ (k : List ℕ). k ≡ name) c.new.result c.in_ok-key.key c.in_ok-key.ensures.value c.new.ensures.name in
    let inserted : c.set.new.self ≡ insert c.loop.attrs c.in_ok-key.key c.in_ok-value.value =
    kept (λ _. c.set.new.self ≡ insert c.loop.attrs c.in_ok-key.key c.in_ok-value.value) c.set.result c.in_ok-ok.field-0 c.in_ok-ok.ensures.value c.set.ensures.ok in (
      put name spells.0 found,
      member_more 0 c.begin_object.new.reader c.loop.reader c.next_name.new.reader c.scalar.new.reader found name spells.0 c.loop.invariant.1 named spells.2,
      subst (λ (m : Attributes). AreEntries scalar_of (put name spells.0 found) m.entries) (sym (inserted ∙ ap (λ (k : List ℕ). insert c.loop.attrs k c.in_ok-value.value) same_key))
          (entries-insert scalar_of c.loop.attrs name spells.0 c.in_ok-value.value found is_key spells.1 c.loop.invariant.2),
    )
