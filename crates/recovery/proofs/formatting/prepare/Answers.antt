use Rattle.std.proofs.Common.{◌≡◌, ℕ, ◌+◌, ◌*◌, ◌≤◌, ◌<◌, List, length, sym, ap, subst, arith}
use Rattle.std.proofs.lemmas.Result.{on_ok_weaker}
use Rattle.disk.specs.Device.{overwritten}
use Rattle.disk.proofs.CallerLemmas.{goes_on_run}
use Rattle.segments.specs.Table.{slot_place}
use Rattle.recovery.specs.Shape.{layout_length, cell_place, slots_place}
use Rattle.recovery.specs.Layout.{IsClosed}
use Rattle.recovery.specs.Formatting.{IsPrepared}
use Rattle.recovery.proofs.EmptyStores.{stays_unformatted, prepared}
use Rattle.recovery.proofs.formatting.prepare.Goals as goal

pub returns-in_err-close_gates-2-clause-any_moment : goal.returns-in_err-close_gates-2-clause-any_moment
returns-in_err-close_gates-2-clause-any_moment g c closed =
    let first = c.close_gates.ensures.any_moment closed in
    goes_on_run first (c.close_gates-2.ensures.any_moment first.last)

pub returns-clause-any_moment : goal.returns-clause-any_moment
returns-clause-any_moment g c closed =
    let first = c.close_gates.ensures.any_moment closed in
    let long : length c.args.body.now ≡ 32 = ap (length {A = ℕ}) c.requires.body in
    stays_unformatted (goes_on_run first (c.close_gates-2.ensures.any_moment first.last)) c.write_at.ensures.time
    (omega (arith, long, c.requires.fits.room, c.close_gates.ensures.only_written.length, c.close_gates-2.ensures.only_written.length)) (omega arith)

pub returns-clause-prepared : goal.returns-clause-prepared
returns-clause-prepared g c =
    let shape = c.args.shape.now in
    let now = g.D.Disk.seen c.close_gates-2.new.disk in
    let cells : (k : ℕ) → k < 2 * shape.docs → IsClosed now (cell_place shape k) = λ k inside.
    subst (λ n. IsClosed now (64 + k * n)) c.from-cell.ensures
    (c.in_ok-close_gates-2.ensures.others (64 + k * c.from-cell.result) (c.in_ok-close_gates.ensures.closed k (omega (arith, c.from-docs.ensures)))) in
    let slots : (s : ℕ) → s < shape.slots → IsClosed now (slot_place (slots_place shape) shape.slot s) = λ s inside.
    let place : 64 + 2 * c.from-docs.result * c.from-cell.result + s * c.from.result ≡ slot_place (slots_place shape) shape.slot s = cc in
    subst (λ n. IsClosed now n) place (c.in_ok-close_gates-2.ensures.closed s (omega (arith, c.from-2.ensures))) in
    let long : layout_length shape ≤ length now = omega (arith, c.requires.fits.room, c.close_gates.ensures.only_written.length, c.close_gates-2.ensures.only_written.length) in
    let done : IsPrepared shape (overwritten now 1 c.args.body.now) =
    subst (λ (l : List ℕ). IsPrepared shape (overwritten now 1 l)) (sym c.requires.body) (prepared shape now long (omega (arith, long)) cells slots) in
    on_ok_weaker c.write_at.result (λ wrote. subst (IsPrepared shape) (sym wrote) done) c.write_at.ensures.written
