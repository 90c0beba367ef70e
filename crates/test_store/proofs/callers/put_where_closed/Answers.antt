use Rattle.std.proofs.Common.{List, ℕ, sym, ◌∙◌, ap, subst}
use Rattle.disk.specs.Device.{History}
use Rattle.milestone.specs.OneCell.{HoldsPair}
use Rattle.milestone.specs.Cells.{Fits, place_of, size_of, with_cell}
use Rattle.milestone.specs.ReadCells.{pair_of}
use Rattle.test_store.proofs.callers.put_where_closed.Goals as goal

-- What was read fits the content before the put, since reading changes nothing; so the put says what the cells hold behind it.
pub returns-clause-put : goal.returns-clause-put
returns-clause-put g c honest =
    let read = c.in_ok-read.read in
    let known = c.in_ok-read.ensures.known in
    let same_seen = ap (λ (h : History). h.now.seen) (sym c.in_ok-read.ensures.only_read.history) in
    let fits = c.in_ok-read.ensures.found (c.in_ok-put.ensures.only_written.honest.0 honest) in
    let done = c.in_ok-put.ensures.done (pair_of read) (subst (λ (l : List ℕ). Fits l read.cells (pair_of read)) same_seen fits) in
    let now = g.D.Disk.seen c.put.new.disk in
    let after = c.put.new.self in
    subst (λ (k : ℕ). HoldsPair k c.args.size c.args.number now (with_cell c.args.milestone.now (pair_of read))) (done.same.place ∙ known.begins)
    (subst (λ (k : ℕ). HoldsPair (place_of after) k c.args.number now (with_cell c.args.milestone.now (pair_of read))) (done.same.size ∙ known.long)
    (subst (λ (k : ℕ). HoldsPair (place_of after) (size_of after) k now (with_cell c.args.milestone.now (pair_of read))) (done.same.number ∙ known.document) done.fits.holds))
