use Rattle.std.proofs.Common.{inl, inr, ◌+◌, ◌*◌, length, ap, arith}
use Rattle.recovery.specs.steps.Group.{MayBeReplaced, MayBeTwice, StandTogether, put_in}
use Rattle.recovery.proofs.OneRound.{places_on, stands_on, left_map, left_then, if_ok}
use Rattle.recovery.proofs.Together.{writes_then, writes_wider}
use Rattle.recovery.proofs.rounds.put_both.Goals as goal

pub put_each-requires-2 : goal.put_each-requires-2
put_each-requires-2 g c = record {
  places = places_on g.D.Disk (3 * length c.args.members.now + 3) 3 c.args.members.now c.args.cells.now c.put_each.new.cells c.args.device.now c.put_each.new.device c.requires.places
      c.put_each.ensures.writes;
}

pub returns-in_err-put_each-clause-any_moment : goal.returns-in_err-put_each-clause-any_moment
returns-in_err-put_each-clause-any_moment g c shape held put together spelled =
    left_map g.D.Disk shape (MayBeReplaced c.args.members.now put held) (MayBeTwice c.args.members.now put held) c.args.device.now c.args.device.now c.put_each.new.device (λ n pair may. inl may)
    (c.put_each.ensures.any_moment shape held put together spelled)

pub returns-in_err-put_each-clause-writes : goal.returns-in_err-put_each-clause-writes
returns-in_err-put_each-clause-writes g c =
    let k = length c.args.members.now in
    writes_wider g.D.Disk (3 * k + 3) (6 * k + 6) 3 6 c.args.cells.now c.put_each.new.cells c.args.device.now c.put_each.new.device (omega arith) (omega arith) c.put_each.ensures.writes

pub returns-clause-any_moment : goal.returns-clause-any_moment
returns-clause-any_moment g c shape held put together spelled =
    let ms = c.args.members.now in
    let mid : StandTogether g.D.Disk shape ms (put_in ms put held) c.put_each.new.cells c.put_each.new.device =
    stands_on g.D.Disk (3 * length ms + 3) 3 shape ms held (put_in ms put held) c.args.cells.now c.put_each.new.cells c.args.device.now c.put_each.new.device together c.put_each.ensures.writes
    c.in_ok-put_each.ensures.synced (c.in_ok-put_each.ensures.done shape held put together spelled) in
    left_then g.D.Disk shape (MayBeReplaced ms put (put_in ms put held)) (MayBeTwice ms put held) c.args.device.now c.put_each.new.device c.put_each-2.new.device
    (c.put_each.ensures.writes.outside shape together.placed) (λ n pair may. inr may)
    (left_map g.D.Disk shape (MayBeReplaced ms put held) (MayBeTwice ms put held) c.args.device.now c.args.device.now c.put_each.new.device (λ n pair may. inl may)
    (c.put_each.ensures.any_moment shape held put together spelled))
    (c.put_each-2.ensures.any_moment shape (put_in ms put held) put mid spelled)

pub returns-clause-done : goal.returns-clause-done
returns-clause-done g c =
    let ms = c.args.members.now in
    if_ok c.put_each-2.result (λ done shape held put together spelled.
    done shape (put_in ms put held) put
    (stands_on g.D.Disk (3 * length ms + 3) 3 shape ms held (put_in ms put held) c.args.cells.now c.put_each.new.cells c.args.device.now c.put_each.new.device together c.put_each.ensures.writes
    c.in_ok-put_each.ensures.synced (c.in_ok-put_each.ensures.done shape held put together spelled)) spelled) c.put_each-2.ensures.done

pub returns-clause-writes : goal.returns-clause-writes
returns-clause-writes g c =
    let k = length c.args.members.now in
    writes_wider g.D.Disk ((3 * k + 3) + (3 * k + 3)) (6 * k + 6) 6 6 c.args.cells.now c.put_each-2.new.cells c.args.device.now c.put_each-2.new.device (omega arith) (omega arith)
    (writes_then g.D.Disk (3 * k + 3) (3 * k + 3) 3 3 c.args.cells.now c.put_each.new.cells c.put_each-2.new.cells c.args.device.now c.put_each.new.device c.put_each-2.new.device
    c.in_ok-put_each.ensures.faults.good c.put_each.ensures.writes c.put_each-2.ensures.writes)
