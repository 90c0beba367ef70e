use Rattle.std.proofs.Common.{◌≡◌, ◌+◌, ◌-◌, ◌∙◌, ℕ, List, take, drop, get_or, sym, ap, subst, arith, rules}
use Rattle.std.specs.Int.{w64, to_le_bytes}
use Rattle.std.proofs.lemmas.Result.{err_from_is_err_and}
use Rattle.disk.specs.Device.{History}
use Rattle.journal.specs.Area.{HoldsBodies, Stands, open_gate}
use Rattle.journal.specs.Refusals.{refusal_of_scan}
use Rattle.journal.specs.Scan.{items_of}
use Rattle.refusal.specs.declared.Refusal.TheVariants.{Damaged}
use Rattle.segments.proofs.SlotsRead.{damaged_of, segment_read, number_damaged, area_damaged}
use Rattle.segments.proofs.reading.read_slot.Goals as goal

pub returns-then-number-eq0-clause-damaged : goal.returns-then-number-eq0-clause-damaged
returns-then-number-eq0-clause-damaged g c is honest =
    let seen = g.D.Disk.seen c.args.disk.now in
    let head = c.read_at.new.out in
    let read : head ≡ take 9 (drop c.args.at seen) = c.in_ok-read_at.ensures.bytes honest in
    let gate : get_or head 0 0 ≡ open_gate = search rules in
    let spelled : take 8 (drop 1 head) ≡ to_le_bytes w64 c.segment_number-number.result = c.segment_number-number.ensures in
    number_damaged c.args.at c.args.size seen head c.requires.low read c.segment_number-number.result gate spelled (search rules)

pub returns-in_err-scan-clause-damaged : goal.returns-in_err-scan-clause-damaged
returns-in_err-scan-clause-damaged g c =
    let p = err_from_is_err_and c.from_residual-in_err-scan.result c.from_residual-in_err-scan.ensures.1 in
    rw p.1 (λ is honest.
    let seen = g.D.Disk.seen c.args.disk.now in
    let head = c.read_at.new.out in
    let told : refusal_of_scan c.in_err-scan.field-0.0 ≡ Damaged = sym p.2 ∙ is in
    let same : g.D.Disk.seen c.read_at.new.disk ≡ seen = ap (λ (h : History). h.now.seen) c.read_at.ensures.only_read.history in
    let read : head ≡ take 9 (drop c.args.at seen) = c.in_ok-read_at.ensures.bytes (c.scan.ensures.only_read.honest honest) in
    let gate : get_or head 0 0 ≡ open_gate = search rules in
    let spelled : take 8 (drop 1 head) ≡ to_le_bytes w64 c.segment_number-number.result = c.segment_number-number.ensures in
    area_damaged c.args.at c.args.size seen head c.requires.low read c.segment_number-number.result gate spelled (λ bodies holds.
    c.in_err-scan.ensures.damaged (damaged_of _ told) honest bodies (subst (λ (l : List ℕ). HoldsBodies bodies (take (c.args.size - 9) (drop (c.args.at + 9) l))) (sym same) holds)))

pub returns-clause-found : goal.returns-clause-found
returns-clause-found g c honest =
    let seen = g.D.Disk.seen c.args.disk.now in
    let head = c.read_at.new.out in
    let same : g.D.Disk.seen c.read_at.new.disk ≡ seen = ap (λ (h : History). h.now.seen) c.read_at.ensures.only_read.history in
    let read : head ≡ take 9 (drop c.args.at seen) = c.in_ok-read_at.ensures.bytes (c.scan.ensures.only_read.honest honest) in
    let gate : get_or head 0 0 ≡ open_gate = search rules in
    let spelled : take 8 (drop 1 head) ≡ to_le_bytes w64 c.segment_number-number.result = c.segment_number-number.ensures in
    let scan = c.in_ok-scan.scan in
    let stands : Stands seen scan.area (items_of scan.bodies.items) = subst (λ (l : List ℕ). Stands l scan.area (items_of scan.bodies.items)) same (c.in_ok-scan.ensures.found honest) in
    segment_read c.args.at c.args.size seen head c.requires.low read c.segment_number-number.result gate spelled scan.area (items_of scan.bodies.items) (omega arith) (omega arith) stands c.in_ok-scan.ensures.place.0 c.in_ok-scan.ensures.place.1
