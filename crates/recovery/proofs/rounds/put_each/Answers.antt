use Rattle.std.proofs.Common.{◌≡◌, inl, ℕ, ◌+◌, ◌*◌, length, ◌∙◌, ap, arith}
use Rattle.history.specs.Cell.{Pair, freed}
use Rattle.milestone.specs.Cells.{with_cell}
use Rattle.recovery.specs.steps.Group.{MayBeFreed, MayBePut, MayBeReplaced, StandTogether, part, put_in}
use Rattle.recovery.proofs.OneRound.{costs_still, costs_before, costs_wider, closed_half, less_may, put_may, put_same, places_on, stands_on, stand_same, left_map, left_then, if_ok}
use Rattle.recovery.proofs.Together.{costs_then, writes_then, writes_wider}
use Rattle.recovery.proofs.rounds.put_each.Goals as goal

pub write_each-requires : goal.write_each-requires
write_each-requires g c = record {
  places = places_on g.D.Disk (length c.args.members.now + 1) 1 c.args.members.now c.args.cells.now c.close_each.new.cells c.args.device.now c.close_each.new.device c.requires.places
      c.close_each.ensures.writes;
}

pub open_each-requires : goal.open_each-requires
open_each-requires g c = record {
  places = places_on g.D.Disk (length c.args.members.now + 1) 1 c.args.members.now c.close_each.new.cells c.close_each.new.cells c.close_each.new.device c.write_each.new.device
      (places_on g.D.Disk (length c.args.members.now + 1) 1 c.args.members.now c.args.cells.now c.close_each.new.cells c.args.device.now c.close_each.new.device c.requires.places
      c.close_each.ensures.writes) c.write_each.ensures.writes;
}

pub returns-in_err-close_each-clause-any_moment : goal.returns-in_err-close_each-clause-any_moment
returns-in_err-close_each-clause-any_moment g c shape held put together spelled =
    left_map g.D.Disk shape (MayBeFreed held) (MayBeReplaced c.args.members.now put held) c.args.device.now c.args.device.now c.close_each.new.device (λ n pair may. inl may)
    (c.close_each.ensures.any_moment shape held together)

pub returns-in_err-close_each-clause-writes : goal.returns-in_err-close_each-clause-writes
returns-in_err-close_each-clause-writes g c =
    let k = length c.args.members.now in
    writes_wider g.D.Disk (k + 1) (3 * k + 3) 1 3 c.args.cells.now c.close_each.new.cells c.args.device.now c.close_each.new.device (omega arith) (omega arith) c.close_each.ensures.writes

pub returns-in_err-write_each-clause-any_moment : goal.returns-in_err-write_each-clause-any_moment
returns-in_err-write_each-clause-any_moment g c shape held put together spelled =
    let ms = c.args.members.now in
    let less : ℕ → Pair = part ms (λ n. freed (held n)) held in
    let mid : StandTogether g.D.Disk shape ms less c.close_each.new.cells c.close_each.new.device =
    stands_on g.D.Disk (length ms + 1) 1 shape ms held less c.args.cells.now c.close_each.new.cells c.args.device.now c.close_each.new.device together c.close_each.ensures.writes
    (c.in_ok-close_each.ensures.synced together.synced) (c.in_ok-close_each.ensures.done shape held together) in
    left_then g.D.Disk shape (λ n pair. pair ≡ less n) (MayBeReplaced ms put held) c.args.device.now c.close_each.new.device c.write_each.new.device
    (c.close_each.ensures.writes.outside shape together.placed) (less_may ms put held)
    (left_map g.D.Disk shape (MayBeFreed held) (MayBeReplaced ms put held) c.args.device.now c.args.device.now c.close_each.new.device (λ n pair may. inl may)
    (c.close_each.ensures.any_moment shape held together))
    (c.write_each.ensures.any_moment shape less mid)

pub returns-in_err-write_each-clause-writes : goal.returns-in_err-write_each-clause-writes
returns-in_err-write_each-clause-writes g c =
    let k = length c.args.members.now in
    writes_wider g.D.Disk ((k + 1) + (k + 1)) (3 * k + 3) 2 3 c.args.cells.now c.close_each.new.cells c.args.device.now c.write_each.new.device (omega arith) (omega arith)
    (writes_then g.D.Disk (k + 1) (k + 1) 1 1 c.args.cells.now c.close_each.new.cells c.close_each.new.cells c.args.device.now c.close_each.new.device c.write_each.new.device
    c.in_ok-close_each.ensures.faults.good c.close_each.ensures.writes c.write_each.ensures.writes)

pub returns-clause-any_moment : goal.returns-clause-any_moment
returns-clause-any_moment g c shape held put together spelled =
    let ms = c.args.members.now in
    let less : ℕ → Pair = part ms (λ n. freed (held n)) held in
    let mid : StandTogether g.D.Disk shape ms less c.close_each.new.cells c.close_each.new.device =
    stands_on g.D.Disk (length ms + 1) 1 shape ms held less c.args.cells.now c.close_each.new.cells c.args.device.now c.close_each.new.device together c.close_each.ensures.writes
    (c.in_ok-close_each.ensures.synced together.synced) (c.in_ok-close_each.ensures.done shape held together) in
    let later : StandTogether g.D.Disk shape ms less c.close_each.new.cells c.write_each.new.device =
    stands_on g.D.Disk (length ms + 1) 1 shape ms less less c.close_each.new.cells c.close_each.new.cells c.close_each.new.device c.write_each.new.device mid c.write_each.ensures.writes
    c.in_ok-write_each.ensures.synced (c.in_ok-write_each.ensures.done shape less mid) in
    let two = writes_then g.D.Disk (length ms + 1) (length ms + 1) 1 1 c.args.cells.now c.close_each.new.cells c.close_each.new.cells c.args.device.now c.close_each.new.device c.write_each.new.device
    c.in_ok-close_each.ensures.faults.good c.close_each.ensures.writes c.write_each.ensures.writes in
    left_then g.D.Disk shape (MayBePut ms put less) (MayBeReplaced ms put held) c.args.device.now c.write_each.new.device c.open_each.new.device
    (two.outside shape together.placed) (put_may ms put held)
    (left_then g.D.Disk shape (λ n pair. pair ≡ less n) (MayBeReplaced ms put held) c.args.device.now c.close_each.new.device c.write_each.new.device
    (c.close_each.ensures.writes.outside shape together.placed) (less_may ms put held)
    (left_map g.D.Disk shape (MayBeFreed held) (MayBeReplaced ms put held) c.args.device.now c.args.device.now c.close_each.new.device (λ n pair may. inl may)
    (c.close_each.ensures.any_moment shape held together))
    (c.write_each.ensures.any_moment shape less mid))
    (c.open_each.ensures.any_moment shape less put later spelled (c.in_ok-write_each.ensures.ready shape less put mid spelled) (closed_half ms put held))

pub returns-clause-done : goal.returns-clause-done
returns-clause-done g c =
    let ms = c.args.members.now in
    if_ok c.open_each.result (λ done shape held put together spelled.
    let less : ℕ → Pair = part ms (λ n. freed (held n)) held in
    let mid : StandTogether g.D.Disk shape ms less c.close_each.new.cells c.close_each.new.device =
    stands_on g.D.Disk (length ms + 1) 1 shape ms held less c.args.cells.now c.close_each.new.cells c.args.device.now c.close_each.new.device together c.close_each.ensures.writes
    (c.in_ok-close_each.ensures.synced together.synced) (c.in_ok-close_each.ensures.done shape held together) in
    let later : StandTogether g.D.Disk shape ms less c.close_each.new.cells c.write_each.new.device =
    stands_on g.D.Disk (length ms + 1) 1 shape ms less less c.close_each.new.cells c.close_each.new.cells c.close_each.new.device c.write_each.new.device mid c.write_each.ensures.writes
    c.in_ok-write_each.ensures.synced (c.in_ok-write_each.ensures.done shape less mid) in
    stand_same (part ms (λ n. with_cell (put n) (less n)) less) (put_in ms put held) c.open_each.new.cells (g.D.Disk.seen c.open_each.new.device) (put_same ms put held)
    (done shape less put later spelled (c.in_ok-write_each.ensures.ready shape less put mid spelled) (closed_half ms put held))) c.open_each.ensures.done

pub returns-clause-writes : goal.returns-clause-writes
returns-clause-writes g c =
    let k = length c.args.members.now in
    let two = writes_then g.D.Disk (k + 1) (k + 1) 1 1 c.args.cells.now c.close_each.new.cells c.close_each.new.cells c.args.device.now c.close_each.new.device c.write_each.new.device
    c.in_ok-close_each.ensures.faults.good c.close_each.ensures.writes c.write_each.ensures.writes in
    writes_wider g.D.Disk (((k + 1) + (k + 1)) + (k + 1)) (3 * k + 3) 3 3 c.args.cells.now c.open_each.new.cells c.args.device.now c.open_each.new.device (omega arith) (omega arith)
    (writes_then g.D.Disk ((k + 1) + (k + 1)) (k + 1) 2 1 c.args.cells.now c.close_each.new.cells c.open_each.new.cells c.args.device.now c.write_each.new.device c.open_each.new.device
    (c.in_ok-write_each.ensures.faults.good ∙ c.in_ok-close_each.ensures.faults.good) two c.open_each.ensures.writes)

-- where no cell is to be closed, nothing is done for that
pub returns-in_err-close_each-clause-fewer : goal.returns-in_err-close_each-clause-fewer
returns-in_err-close_each-clause-fewer g c closed =
    costs_still g.D.Disk (2 * length c.args.members.now + 2) 2 c.args.device.now c.close_each.new.device (c.close_each.ensures.untouched closed).0

pub returns-in_err-write_each-clause-fewer : goal.returns-in_err-write_each-clause-fewer
returns-in_err-write_each-clause-fewer g c closed =
    let k = length c.args.members.now in
    costs_before g.D.Disk (2 * k + 2) 2 c.args.device.now c.close_each.new.device c.write_each.new.device (c.close_each.ensures.untouched closed).0
    (costs_wider g.D.Disk (k + 1) (2 * k + 2) 1 2 c.close_each.new.device c.write_each.new.device (omega arith) (omega arith) c.write_each.ensures.writes.costs)

pub returns-clause-fewer : goal.returns-clause-fewer
returns-clause-fewer g c closed =
    let k = length c.args.members.now in
    costs_before g.D.Disk (2 * k + 2) 2 c.args.device.now c.close_each.new.device c.open_each.new.device (c.close_each.ensures.untouched closed).0
    (costs_wider g.D.Disk ((k + 1) + (k + 1)) (2 * k + 2) 2 2 c.close_each.new.device c.open_each.new.device (omega arith) (omega arith)
    (costs_then g.D.Disk (k + 1) (k + 1) 1 1 c.in_ok-write_each.ensures.faults.good c.write_each.ensures.writes.costs c.open_each.ensures.writes.costs))
