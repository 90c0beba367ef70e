use Rattle.std.proofs.Common.{◌≡◌, inl, List, ℕ, ◌+◌, ◌<◌, false, true, length, get_or, take, refl, sym, ◌∙◌, ap, subst, arith}
use Rattle.std.specs.Prelude.{slice_get, Some}
use Rattle.std.proofs.lemmas.List.{take_all}
use Rattle.std.proofs.lemmas.Option.{slice_get-get_or}
use Rattle.disk.proofs.CallerLemmas.{goes_on_sync}
use Rattle.history.specs.Cell.{Cell, Pair}
use Rattle.milestone.specs.Cells.{HasClosed, revisions_of, with_cell}
use Rattle.milestone.specs.declared.cells.Cells.{Cells}
use Rattle.milestone.specs.Revisions.{revisions_in}
use Rattle.milestone.specs.Together.{IsPutOr, IsReady}
use Rattle.recovery.specs.declared.group.Member.{Member}
use Rattle.recovery.specs.steps.Group.{MayBePut, Stand, part, is_in}
use Rattle.recovery.proofs.Members.{in_at, part_next, part_still, part_before}
use Rattle.recovery.proofs.Together.{writes_none, writes_one, writes_then, writes_wider, way_begins, way_left, way_more, stands_apart, within_here, put_implies, waits_more, on_ok}
use Rattle.recovery.proofs.rounds.open_each.Goals as goal

pub loop-member-init : goal.loop-member-init
loop-member-init g c = record {
  writes = writes_none g.D.Disk c.args.cells.now c.args.device.now;
  faults = refl;
  way = λ shape held put together spelled ready half.
      way_begins g.D.Disk shape c.args.members.now (MayBePut c.args.members.now put held) held c.args.device.now c.args.cells.now together (λ n. inl refl);
  waits = λ shape put are distinct ready n one own away here. ready n one own here;
}

pub write_opened-requires : goal.write_opened-requires
write_opened-requires g c =
    let places = c.requires.places in
    let before = c.loop-member.invariant in
    let m = c.member-item.result in
    let known = c.loop-member.cells in
    let are = before.writes.placed places.shape places.placed in
    let inside : m.document < places.shape.docs = places.inside c.loop-member.member-index m c.loop-member-test.true (sym c.member-item.is) in
    let at = slice_get-get_or known m.document c.index-cells-member.result (omega (arith, inside, are.count)) in
    record {
      end = within_here places.shape m.document (get_or known m.document c.index-cells-member.result) (are.each m.document (get_or known m.document c.index-cells-member.result) at)
          (length (g.D.Disk.seen c.loop-member.device)) inside (omega (arith, places.within, before.writes.only_written.length));
    }

pub returns-in_err-write_opened-clause-any_moment : goal.returns-in_err-write_opened-clause-any_moment
returns-in_err-write_opened-clause-any_moment g c shape held put together spelled ready half =
    let ms = c.args.members.now in
    let before = c.loop-member.invariant in
    let k = c.loop-member.member-index in
    let m = c.member-item.result in
    let is : get_or ms k m ≡ m = sym c.member-item.is in
    let known = c.loop-member.cells in
    let are = before.writes.placed shape together.placed in
    let inside : m.document < shape.docs = omega (arith, c.requires.places.inside k m c.loop-member-test.true is, c.requires.places.placed.count, together.placed.count) in
    let one : Cells = get_or known m.document c.index-cells-member.result in
    let at : slice_get known m.document ≡ Some one = slice_get-get_or known m.document c.index-cells-member.result (omega (arith, inside, are.count)) in
    let not_yet = together.distinct k m c.loop-member-test.true is in
    let own : ℕ → Pair = λ n. with_cell (put n) (held n) in
    let f : ℕ → Pair = part (take k ms) own held in
    let same : f m.document ≡ held m.document = part_before ms k m c.loop-member-test.true is own held together.distinct in
    let mine = in_at ms k m c.loop-member-test.true is in
    way_left g.D.Disk shape ms k m c.loop-member-test.true is inside (MayBePut ms put held) f c.args.device.now c.loop-member.device c.write_opened.new.disk known
    (before.way shape held put together spelled ready half) are one at not_yet
    (IsPutOr (put m.document) (f m.document))
    (λ pair may. put_implies (is_in ms m.document ≡ true) mine (put m.document) (held m.document) pair (subst (λ (p : Pair). IsPutOr (put m.document) p pair) same may))
    (c.write_opened.ensures.any_moment (f m.document) (put m.document)
    (stands_apart g.D.Disk shape ms k m c.loop-member-test.true is inside (MayBePut ms put held) f c.args.device.now c.loop-member.device c.write_opened.new.disk known
    (before.way shape held put together spelled ready half) are one at not_yet)
    (before.waits shape put together.placed together.distinct ready m.document one mine not_yet at))

pub returns-in_err-write_opened-clause-writes : goal.returns-in_err-write_opened-clause-writes
returns-in_err-write_opened-clause-writes g c =
    let places = c.requires.places in
    let before = c.loop-member.invariant in
    let m = c.member-item.result in
    let known = c.loop-member.cells in
    let are = before.writes.placed places.shape places.placed in
    let inside : m.document < places.shape.docs = places.inside c.loop-member.member-index m c.loop-member-test.true (sym c.member-item.is) in
    let one : Cells = get_or known m.document c.index-cells-member.result in
    let at : slice_get known m.document ≡ Some one = slice_get-get_or known m.document c.index-cells-member.result (omega (arith, inside, are.count)) in
    writes_wider g.D.Disk (c.loop-member.member-index + 1) (length c.args.members.now + 1) 0 1 c.args.cells.now _ c.args.device.now c.write_opened.new.disk (omega (arith, c.loop-member-test.true)) (omega arith)
    (writes_then g.D.Disk c.loop-member.member-index 1 0 0 c.args.cells.now known _ c.args.device.now c.loop-member.device c.write_opened.new.disk before.faults before.writes
    (writes_one g.D.Disk known m.document one c.write_opened.new.self c.loop-member.device c.write_opened.new.disk at c.write_opened.ensures.same c.write_opened.ensures.within))

pub loop-member-preserved : goal.loop-member-preserved
loop-member-preserved g c =
    let places = c.requires.places in
    let ms = c.args.members.now in
    let before = c.loop-member.invariant in
    let k = c.loop-member.member-index in
    let m = c.member-item.result in
    let is : get_or ms k m ≡ m = sym c.member-item.is in
    let known = c.loop-member.cells in
    let one : Cells = get_or known m.document c.index-cells-member.result in
    let here = places.inside k m c.loop-member-test.true is in
    let at : slice_get known m.document ≡ Some one =
    slice_get-get_or known m.document c.index-cells-member.result (omega (arith, here, (before.writes.placed places.shape places.placed).count)) in
    let mine = in_at ms k m c.loop-member-test.true is in
    record {
      writes = writes_then g.D.Disk k 1 0 0 c.args.cells.now known _ c.args.device.now c.loop-member.device c.write_opened.new.disk before.faults before.writes
          (writes_one g.D.Disk known m.document one c.write_opened.new.self c.loop-member.device c.write_opened.new.disk at c.write_opened.ensures.same c.write_opened.ensures.within);
      faults = c.in_ok-write_opened.ensures.faults.good ∙ before.faults;
      way = λ shape held put together spelled ready half.
          let are = before.writes.placed shape together.placed in
          let inside : m.document < shape.docs = omega (arith, here, places.placed.count, together.placed.count) in
          let not_yet = together.distinct k m c.loop-member-test.true is in
          let own : ℕ → Pair = λ n. with_cell (put n) (held n) in
          let f : ℕ → Pair = part (take k ms) own held in
          let same : f m.document ≡ held m.document = part_before ms k m c.loop-member-test.true is own held together.distinct in
          let way = before.way shape held put together spelled ready half in
          let waits : IsReady one (put m.document) (g.D.Disk.seen c.loop-member.device) = before.waits shape put together.placed together.distinct ready m.document one mine not_yet at in
          let fits = way.stand m.document one at in
          let closed : HasClosed (revisions_of one) = subst HasClosed (sym (fits.revisions ∙ ap revisions_in same)) (half m.document mine) in
          way_more g.D.Disk shape ms k m c.loop-member-test.true is inside (MayBePut ms put held) f c.args.device.now c.loop-member.device c.write_opened.new.disk known way are one at not_yet
          (IsPutOr (put m.document) (f m.document))
          (λ pair may. put_implies (is_in ms m.document ≡ true) mine (put m.document) (held m.document) pair (subst (λ (p : Pair). IsPutOr (put m.document) p pair) same may))
          (c.write_opened.ensures.any_moment (f m.document) (put m.document)
          (stands_apart g.D.Disk shape ms k m c.loop-member-test.true is inside (MayBePut ms put held) f c.args.device.now c.loop-member.device c.write_opened.new.disk known way are one at not_yet)
          waits)
          c.write_opened.ensures.within (part (take (k + 1) ms) own held) c.write_opened.new.self (with_cell (put m.document) (f m.document))
          (c.in_ok-write_opened.ensures.done (f m.document) (put m.document) closed (spelled k m c.loop-member-test.true is).revision fits waits)
          (part_next ms k m c.loop-member-test.true is own held ∙ ap (with_cell (put m.document)) (sym same))
          (λ n differ. part_still ms k m c.loop-member-test.true is own held n differ);
      waits = λ shape put are distinct ready.
          waits_more shape ms k m c.loop-member-test.true is put known (before.writes.placed shape are) one at (g.D.Disk.seen c.loop-member.device) (g.D.Disk.seen c.write_opened.new.disk)
          c.write_opened.ensures.within.outside c.write_opened.new.self (before.waits shape put are distinct ready);
    }

pub returns-clause-any_moment : goal.returns-clause-any_moment
returns-clause-any_moment g c shape held put together spelled ready half =
    goes_on_sync (c.loop-member.invariant.way shape held put together spelled ready half).left c.sync.ensures.time

pub returns-clause-done : goal.returns-clause-done
returns-clause-done g c =
    let ms = c.args.members.now in
    let all : take c.loop-member.member-index ms ≡ ms = take_all _ ms (omega (arith, c.loop-member-test.false)) in
    on_ok c.sync.result (λ shape held put together spelled ready half.
    subst (Stand (part ms (λ n. with_cell (put n) (held n)) held) c.loop-member.cells) (sym c.sync.ensures.seen)
    (subst (λ (l : List Member). Stand (part l (λ n. with_cell (put n) (held n)) held) c.loop-member.cells (g.D.Disk.seen c.loop-member.device)) all
    (c.loop-member.invariant.way shape held put together spelled ready half).stand))
