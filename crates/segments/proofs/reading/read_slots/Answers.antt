use Rattle.std.proofs.Common.{◌≡◌, ◌∙◌, ◌++◌, ◌∷◌, [], sym, ap, rules}
use Rattle.std.proofs.lemmas.Result.{err_from_is_err_and}
use Rattle.disk.specs.Device.{History}
use Rattle.segments.proofs.TablesRead.{damaged_here, read_more, areas_more}
use Rattle.segments.proofs.reading.read_slots.Goals as goal

pub returns-in_err-read-clause-damaged : goal.returns-in_err-read-clause-damaged
returns-in_err-read-clause-damaged g c =
    let p = err_from_is_err_and c.from_residual.result c.from_residual.ensures.1 in
    rw p.1 (λ is honest.
    let same : g.D.Disk.seen c.loop-slot.disk ≡ g.D.Disk.seen c.args.disk.now = ap (λ (h : History). h.now.seen) c.loop-slot.invariant.stays in
    damaged_here c.args.at c.args.size c.args.count c.loop-slot.slot _ _ same c.loop-slot-test.true (c.in_err-read.ensures.damaged (sym p.2 ∙ is) honest))

pub loop-slot-preserved : goal.loop-slot-preserved
loop-slot-preserved g c =
    let same : g.D.Disk.seen c.loop-slot.disk ≡ g.D.Disk.seen c.args.disk.now = ap (λ (h : History). h.now.seen) c.loop-slot.invariant.stays in
    let items : c.push.new.self.items ≡ c.loop-slot.slots.items ++ c.in_ok-read.read ∷ [] = search rules in
    record {
      count = search rules;
      found = λ honest. rw items (read_more c.args.at c.args.size _ _ c.loop-slot.slots.items c.in_ok-read.read c.loop-slot.slot c.loop-slot.invariant.count same
          (c.loop-slot.invariant.found (c.read_slot.ensures.only_read.honest honest)) (c.in_ok-read.ensures.found honest) (c.in_ok-read.ensures.next honest));
      areas = rw items (areas_more c.args.at c.args.size c.loop-slot.slots.items c.in_ok-read.read c.loop-slot.slot c.loop-slot.invariant.count c.loop-slot.invariant.areas c.in_ok-read.ensures.area);
      stays = c.read_slot.ensures.only_read.history ∙ c.loop-slot.invariant.stays;
      honest = λ honest. c.loop-slot.invariant.honest (c.read_slot.ensures.only_read.honest honest);
      good = c.in_ok-read.ensures.faults.good ∙ c.loop-slot.invariant.good;
    }
