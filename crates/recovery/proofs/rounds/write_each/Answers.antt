use Rattle.std.proofs.Common.{◌≡◌, List, ◌+◌, ◌<◌, false, length, get_or, set, take, refl, sym, ◌∙◌, ap, subst, arith}
use Rattle.std.specs.Prelude.{slice_get, Some}
use Rattle.std.proofs.lemmas.Bool.{false≢true}
use Rattle.std.proofs.lemmas.List.{take_all, set-get_or}
use Rattle.std.proofs.lemmas.Option.{slice_get_read}
use Rattle.disk.proofs.CallerLemmas.{goes_on_sync}
use Rattle.history.specs.Cell.{Cell}
use Rattle.milestone.specs.declared.cells.Cells.{Cells}
use Rattle.recovery.specs.declared.group.Member.{Member}
use Rattle.recovery.specs.steps.Group.{AreReady, IsUnderWay, Stand, WriteCells}
use Rattle.recovery.proofs.Together.{writes_none, writes_one, writes_then, writes_wider, way_begins, way_left, way_more, stands_apart, within_here, room_here, framed_here, ready_more, same_cells, on_ok}
use Rattle.recovery.proofs.rounds.write_each.Goals as goal

pub loop-member-init : goal.loop-member-init
loop-member-init g c = record {
  writes = writes_none g.D.Disk c.args.cells.now c.args.device.now;
  faults = refl;
  way = λ shape held together. way_begins g.D.Disk shape c.args.members.now (λ n pair. pair ≡ held n) held c.args.device.now c.args.cells.now together (λ n. refl);
  ready = λ shape held put together spelled n one own. absurd (false≢true own);
}

pub write_body-requires-clause-end : goal.write_body-requires-clause-end
write_body-requires-clause-end g c =
    let places = c.requires.places in
    let before = c.loop-member.invariant in
    let m = c.member-item.result in
    let known = c.args.cells.now in
    let inside : m.document < places.shape.docs = places.inside c.loop-member.member-index m c.loop-member-test.true (sym c.member-item.is) in
    let at = slice_get_read known (length known) m.document c.index-cells-member.result refl (omega (arith, inside, places.placed.count)) c.index-cells-member.is in
    within_here places.shape m.document c.index-cells-member.result (places.placed.each m.document c.index-cells-member.result at)
    (length (g.D.Disk.seen c.loop-member.device)) inside (omega (arith, places.within, before.writes.only_written.length))

pub write_body-requires-clause-short : goal.write_body-requires-clause-short
write_body-requires-clause-short g c =
    let places = c.requires.places in
    let m = c.member-item.result in
    let known = c.args.cells.now in
    let is = sym c.member-item.is in
    let inside : m.document < places.shape.docs = places.inside c.loop-member.member-index m c.loop-member-test.true is in
    let at = slice_get_read known (length known) m.document c.index-cells-member.result refl (omega (arith, inside, places.placed.count)) c.index-cells-member.is in
    omega (arith, places.short c.loop-member.member-index m c.loop-member-test.true is, (places.placed.each m.document c.index-cells-member.result at).size)

pub returns-in_err-write_body-clause-any_moment : goal.returns-in_err-write_body-clause-any_moment
returns-in_err-write_body-clause-any_moment g c shape held together =
    let ms = c.args.members.now in
    let before = c.loop-member.invariant in
    let k = c.loop-member.member-index in
    let m = c.member-item.result in
    let is : get_or ms k m ≡ m = sym c.member-item.is in
    let known = c.args.cells.now in
    let are = together.placed in
    let inside : m.document < shape.docs = omega (arith, c.requires.places.inside k m c.loop-member-test.true is, c.requires.places.placed.count, are.count) in
    let one : Cells = c.index-cells-member.result in
    let at : slice_get known m.document ≡ Some one = slice_get_read known (length known) m.document c.index-cells-member.result refl (omega (arith, inside, are.count)) c.index-cells-member.is in
    let not_yet = together.distinct k m c.loop-member-test.true is in
    way_left g.D.Disk shape ms k m c.loop-member-test.true is inside (λ n pair. pair ≡ held n) held c.args.device.now c.loop-member.device c.write_body.new.disk known (before.way shape held together) are one at not_yet
    (λ left. left ≡ held m.document) (λ pair may. may)
    (c.write_body.ensures.any_moment (held m.document)
    (stands_apart g.D.Disk shape ms k m c.loop-member-test.true is inside (λ n pair. pair ≡ held n) held c.args.device.now c.loop-member.device c.write_body.new.disk known (before.way shape held together) are one at not_yet))

pub returns-in_err-write_body-clause-writes : goal.returns-in_err-write_body-clause-writes
returns-in_err-write_body-clause-writes g c =
    let places = c.requires.places in
    let before = c.loop-member.invariant in
    let m = c.member-item.result in
    let known = c.args.cells.now in
    let inside : m.document < places.shape.docs = places.inside c.loop-member.member-index m c.loop-member-test.true (sym c.member-item.is) in
    let one : Cells = c.index-cells-member.result in
    let at : slice_get known m.document ≡ Some one = slice_get_read known (length known) m.document c.index-cells-member.result refl (omega (arith, inside, places.placed.count)) c.index-cells-member.is in
    writes_wider g.D.Disk (c.loop-member.member-index + 1) (length c.args.members.now + 1) 0 1 known known c.args.device.now c.write_body.new.disk (omega (arith, c.loop-member-test.true)) (omega arith)
    (writes_then g.D.Disk c.loop-member.member-index 1 0 0 known known known c.args.device.now c.loop-member.device c.write_body.new.disk before.faults before.writes
    (subst (λ (l : List Cells). WriteCells g.D.Disk 1 0 known l c.loop-member.device c.write_body.new.disk) (ap (λ (x : Cells). set known m.document x) c.index-cells-member.is ∙ set-get_or known m.document one)
    (writes_one g.D.Disk known m.document one one c.loop-member.device c.write_body.new.disk at (same_cells one) c.write_body.ensures.within)))

pub loop-member-preserved : goal.loop-member-preserved
loop-member-preserved g c =
    let places = c.requires.places in
    let ms = c.args.members.now in
    let before = c.loop-member.invariant in
    let k = c.loop-member.member-index in
    let m = c.member-item.result in
    let is : get_or ms k m ≡ m = sym c.member-item.is in
    let known = c.args.cells.now in
    let one : Cells = c.index-cells-member.result in
    let here = places.inside k m c.loop-member-test.true is in
    let at : slice_get known m.document ≡ Some one = slice_get_read known (length known) m.document c.index-cells-member.result refl (omega (arith, here, places.placed.count)) c.index-cells-member.is in
    let back : set known m.document one ≡ known = ap (λ (x : Cells). set known m.document x) c.index-cells-member.is ∙ set-get_or known m.document one in
    record {
      writes = writes_then g.D.Disk k 1 0 0 known known known c.args.device.now c.loop-member.device c.write_body.new.disk before.faults before.writes
          (subst (λ (l : List Cells). WriteCells g.D.Disk 1 0 known l c.loop-member.device c.write_body.new.disk) back
          (writes_one g.D.Disk known m.document one one c.loop-member.device c.write_body.new.disk at (same_cells one) c.write_body.ensures.within));
      faults = c.in_ok-write_body.ensures.faults.good ∙ before.faults;
      way = λ shape held together.
          let are = together.placed in
          let inside : m.document < shape.docs = omega (arith, here, places.placed.count, are.count) in
          let not_yet = together.distinct k m c.loop-member-test.true is in
          subst (λ (l : List Cells). IsUnderWay g.D.Disk shape ms (k + 1) (λ n pair. pair ≡ held n) held c.args.device.now c.write_body.new.disk l) back
          (way_more g.D.Disk shape ms k m c.loop-member-test.true is inside (λ n pair. pair ≡ held n) held c.args.device.now c.loop-member.device c.write_body.new.disk known (before.way shape held together) are one at not_yet
          (λ left. left ≡ held m.document) (λ pair may. may)
          (c.write_body.ensures.any_moment (held m.document)
          (stands_apart g.D.Disk shape ms k m c.loop-member-test.true is inside (λ n pair. pair ≡ held n) held c.args.device.now c.loop-member.device c.write_body.new.disk known (before.way shape held together) are one at not_yet))
          c.write_body.ensures.within held one (held m.document)
          (c.write_body.ensures.done (held m.document) ((before.way shape held together).stand m.document one at)) refl (λ n differ. refl));
      ready = λ shape held put together spelled.
          let are = together.placed in
          let its = are.each m.document one at in
          let spells = spelled k m c.loop-member-test.true is in
          ready_more shape ms k m c.loop-member-test.true is put known are one at (g.D.Disk.seen c.loop-member.device) (g.D.Disk.seen c.write_body.new.disk) c.write_body.ensures.within.outside
          (c.in_ok-write_body.ensures.ready (put m.document) (room_here shape (put m.document) m one its spells) (c.deref.ensures.value ∙ framed_here shape (put m.document) m one its spells))
          (before.ready shape held put together spelled);
    }

pub returns-clause-any_moment : goal.returns-clause-any_moment
returns-clause-any_moment g c shape held together = goes_on_sync (c.loop-member.invariant.way shape held together).left c.sync.ensures.time

pub returns-clause-done : goal.returns-clause-done
returns-clause-done g c =
    on_ok c.sync.result (λ shape held together. subst (Stand held c.args.cells.now) (sym c.sync.ensures.seen) (c.loop-member.invariant.way shape held together).stand)

pub returns-clause-ready : goal.returns-clause-ready
returns-clause-ready g c =
    let ms = c.args.members.now in
    let all : take c.loop-member.member-index ms ≡ ms = take_all _ ms (omega (arith, c.loop-member-test.false)) in
    on_ok c.sync.result (λ shape held put together spelled.
    subst (AreReady ms put c.args.cells.now) (sym c.sync.ensures.seen)
    (subst (λ (l : List Member). AreReady l put c.args.cells.now (g.D.Disk.seen c.loop-member.device)) all (c.loop-member.invariant.ready shape held put together spelled)))
