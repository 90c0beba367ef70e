use Rattle.std.proofs.Common.{◌≡◌, inl, List, ℕ, ◌+◌, ◌<◌, length, get_or, take, refl, sym, ◌∙◌, ap, subst, arith, rules}
use Rattle.std.specs.Prelude.{slice_get, Some}
use Rattle.std.proofs.lemmas.List.{take_all}
use Rattle.std.proofs.lemmas.Option.{slice_get-get_or}
use Rattle.disk.proofs.CallerLemmas.{goes_on_sync}
use Rattle.history.specs.Cell.{Pair, freed}
use Rattle.milestone.specs.declared.cells.Cells.{Cells}
use Rattle.milestone.specs.Together.{IsFreedOr}
use Rattle.recovery.specs.declared.group.Member.{Member}
use Rattle.recovery.specs.steps.Group.{HaveClosed, MayBeFreed, Stand, part}
use Rattle.recovery.proofs.ClosedBefore.{none_freed}
use Rattle.recovery.proofs.Members.{part_next, part_still, part_before}
use Rattle.recovery.proofs.Together.{writes_none, writes_one, writes_then, writes_wider, way_begins, way_left, way_more, stands_apart, within_here, on_ok}
use Rattle.recovery.proofs.rounds.close_each.Goals as goal

pub loop-member-init : goal.loop-member-init
loop-member-init g c = record {
  writes = writes_none g.D.Disk c.args.cells.now c.args.device.now;
  faults = refl;
  way = λ shape held together. way_begins g.D.Disk shape c.args.members.now (MayBeFreed held) held c.args.device.now c.args.cells.now together (λ n. inl refl);
}

pub write_closed-requires : goal.write_closed-requires
write_closed-requires g c =
    let places = c.requires.places in
    let before = c.loop-member.invariant in
    let m = c.member-item.result in
    let known = c.loop-member.cells in
    let are = before.writes.placed places.shape places.placed in
    let inside : m.document < places.shape.docs = places.inside c.loop-member.member-index m c.loop-member-test.true (sym c.member-item.is) in
    let at = slice_get-get_or known m.document c.index-cells-member.result (omega (arith, inside, are.count)) in
    record {
      end = within_here places.shape m.document (get_or known m.document c.index-cells-member.result) (are.each m.document (get_or known m.document c.index-cells-member.result) at)
          (length (g.D.Disk.seen c.loop-member.device)) inside (omega (arith, places.within, before.writes.only_written.length));
    }

pub returns-in_err-write_closed-clause-any_moment : goal.returns-in_err-write_closed-clause-any_moment
returns-in_err-write_closed-clause-any_moment g c shape held together =
    let ms = c.args.members.now in
    let before = c.loop-member.invariant in
    let k = c.loop-member.member-index in
    let m = c.member-item.result in
    let is : get_or ms k m ≡ m = sym c.member-item.is in
    let known = c.loop-member.cells in
    let are = before.writes.placed shape together.placed in
    let inside : m.document < shape.docs = omega (arith, c.requires.places.inside k m c.loop-member-test.true is, c.requires.places.placed.count, together.placed.count) in
    let one : Cells = get_or known m.document c.index-cells-member.result in
    let at : slice_get known m.document ≡ Some one = slice_get-get_or known m.document c.index-cells-member.result (omega (arith, inside, are.count)) in
    let not_yet = together.distinct k m c.loop-member-test.true is in
    let f : ℕ → Pair = part (take k ms) (λ n. freed (held n)) held in
    let same : f m.document ≡ held m.document = part_before ms k m c.loop-member-test.true is (λ n. freed (held n)) held together.distinct in
    way_left g.D.Disk shape ms k m c.loop-member-test.true is inside (MayBeFreed held) f c.args.device.now c.loop-member.device c.write_closed.new.disk known (before.way shape held together) are one at not_yet
    (IsFreedOr (f m.document)) (λ pair may. subst (λ (p : Pair). IsFreedOr p pair) same may)
    (c.write_closed.ensures.any_moment (f m.document)
    (stands_apart g.D.Disk shape ms k m c.loop-member-test.true is inside (MayBeFreed held) f c.args.device.now c.loop-member.device c.write_closed.new.disk known (before.way shape held together) are one at not_yet))

pub returns-in_err-write_closed-clause-writes : goal.returns-in_err-write_closed-clause-writes
returns-in_err-write_closed-clause-writes g c =
    let places = c.requires.places in
    let before = c.loop-member.invariant in
    let m = c.member-item.result in
    let known = c.loop-member.cells in
    let are = before.writes.placed places.shape places.placed in
    let inside : m.document < places.shape.docs = places.inside c.loop-member.member-index m c.loop-member-test.true (sym c.member-item.is) in
    let one : Cells = get_or known m.document c.index-cells-member.result in
    let at : slice_get known m.document ≡ Some one = slice_get-get_or known m.document c.index-cells-member.result (omega (arith, inside, are.count)) in
    writes_wider g.D.Disk (c.loop-member.member-index + 1) (length c.args.members.now + 1) 0 1 c.args.cells.now _ c.args.device.now c.write_closed.new.disk (omega (arith, c.loop-member-test.true)) (omega arith)
    (writes_then g.D.Disk c.loop-member.member-index 1 0 0 c.args.cells.now known _ c.args.device.now c.loop-member.device c.write_closed.new.disk before.faults before.writes
    (writes_one g.D.Disk known m.document one c.write_closed.new.self c.loop-member.device c.write_closed.new.disk at c.write_closed.ensures.same c.write_closed.ensures.within))

pub loop-member-preserved : goal.loop-member-preserved
loop-member-preserved g c =
    let places = c.requires.places in
    let ms = c.args.members.now in
    let before = c.loop-member.invariant in
    let k = c.loop-member.member-index in
    let m = c.member-item.result in
    let is : get_or ms k m ≡ m = sym c.member-item.is in
    let known = c.loop-member.cells in
    let one : Cells = get_or known m.document c.index-cells-member.result in
    let here = places.inside k m c.loop-member-test.true is in
    let at : slice_get known m.document ≡ Some one =
    slice_get-get_or known m.document c.index-cells-member.result (omega (arith, here, (before.writes.placed places.shape places.placed).count)) in
    record {
      writes = writes_then g.D.Disk k 1 0 0 c.args.cells.now known _ c.args.device.now c.loop-member.device c.write_closed.new.disk before.faults before.writes
          (writes_one g.D.Disk known m.document one c.write_closed.new.self c.loop-member.device c.write_closed.new.disk at c.write_closed.ensures.same c.write_closed.ensures.within);
      faults = c.in_ok-write_closed.ensures.faults.good ∙ before.faults;
      way = λ shape held together.
          let are = before.writes.placed shape together.placed in
          let inside : m.document < shape.docs = omega (arith, here, places.placed.count, together.placed.count) in
          let not_yet = together.distinct k m c.loop-member-test.true is in
          let own : ℕ → Pair = λ n. freed (held n) in
          let f : ℕ → Pair = part (take k ms) own held in
          let same : f m.document ≡ held m.document = part_before ms k m c.loop-member-test.true is own held together.distinct in
          way_more g.D.Disk shape ms k m c.loop-member-test.true is inside (MayBeFreed held) f c.args.device.now c.loop-member.device c.write_closed.new.disk known (before.way shape held together) are one at not_yet
          (IsFreedOr (f m.document)) (λ pair may. subst (λ (p : Pair). IsFreedOr p pair) same may)
          (c.write_closed.ensures.any_moment (f m.document)
          (stands_apart g.D.Disk shape ms k m c.loop-member-test.true is inside (MayBeFreed held) f c.args.device.now c.loop-member.device c.write_closed.new.disk known (before.way shape held together) are one at not_yet))
          c.write_closed.ensures.within (part (take (k + 1) ms) own held) c.write_closed.new.self (freed (f m.document))
          (c.in_ok-write_closed.ensures.done (f m.document) ((before.way shape held together).stand m.document one at))
          (part_next ms k m c.loop-member-test.true is own held ∙ ap freed (sym same))
          (λ n differ. part_still ms k m c.loop-member-test.true is own held n differ);
    }

pub returns-clause-any_moment : goal.returns-clause-any_moment
returns-clause-any_moment g c shape held together = goes_on_sync (c.loop-member.invariant.way shape held together).left c.sync.ensures.time

pub returns-clause-done : goal.returns-clause-done
returns-clause-done g c =
    let ms = c.args.members.now in
    let all : take c.loop-member.member-index ms ≡ ms = take_all _ ms (omega (arith, c.loop-member-test.false)) in
    on_ok c.sync.result (λ shape held together.
    subst (Stand (part ms (λ n. freed (held n)) held) c.loop-member.cells) (sym c.sync.ensures.seen)
    (subst (λ (l : List Member). Stand (part l (λ n. freed (held n)) held) c.loop-member.cells (g.D.Disk.seen c.loop-member.device)) all (c.loop-member.invariant.way shape held together).stand))

-- no cell is to be closed
pub is_one_full-requires : goal.is_one_full-requires
is_one_full-requires g c =
    record { inside = λ k m inside is. omega (arith, c.requires.places.inside k m inside is, c.requires.places.placed.count) }

pub returns-then-not-is_one_full-clause-any_moment : goal.returns-then-not-is_one_full-clause-any_moment
returns-then-not-is_one_full-clause-any_moment g c shape held together =
    (way_begins g.D.Disk shape c.args.members.now (MayBeFreed held) held c.args.device.now c.args.cells.now together (λ n. inl refl)).left

pub returns-then-not-is_one_full-clause-done : goal.returns-then-not-is_one_full-clause-done
returns-then-not-is_one_full-clause-done g c shape held together =
    let none : HaveClosed c.args.members.now c.args.cells.now = search rules in
    none_freed c.args.members.now held c.args.cells.now (g.D.Disk.seen c.args.device.now) none together.stand

pub returns-then-not-is_one_full-clause-writes : goal.returns-then-not-is_one_full-clause-writes
returns-then-not-is_one_full-clause-writes g c =
    writes_wider g.D.Disk 0 (length c.args.members.now + 1) 0 1 c.args.cells.now c.args.cells.now c.args.device.now c.args.device.now (omega arith) (omega arith)
    (writes_none g.D.Disk c.args.cells.now c.args.device.now)
