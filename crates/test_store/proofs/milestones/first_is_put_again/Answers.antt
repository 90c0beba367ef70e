use Rattle.std.proofs.Common.{ℕ, length, drop, ap, subst, arith, length-append, length-take}
use Rattle.disk.specs.Memory.{bytes_of}
use Rattle.journal.specs.Area.{open_record, frame}
use Rattle.milestone.specs.CellSpelling.{cell_body}
use Rattle.milestone.specs.OneCell.{HoldsCell}
use Rattle.milestone.specs.Cells.{place_of, size_of}
use Rattle.test_store.proofs.milestones.first_is_put_again.Goals as goal

-- What the first cell holds fits it, and so any cell of this size.
pub is_put_again-requires-clause-fits : goal.is_put_again-requires-clause-fits
is_put_again-requires-clause-fits g c =
    let read = c.cells_of-read.result in
    let known = c.cells_of-read.ensures.known in
    let content = bytes_of c.args.disk.now in
    let body = cell_body 0 c.in-Some.milestone in
    let holds =
    subst (λ first. HoldsCell (place_of read.cells) 256 0 content first) c.in-Some.is
    (subst (λ (k : ℕ). HoldsCell (place_of read.cells) k 0 content read.first) known.long
    (subst (λ (k : ℕ). HoldsCell (place_of read.cells) (size_of read.cells) k content read.first) known.document c.cells_of-read.ensures.fits.holds.first)) in
    omega (arith, ap (length {A = ℕ}) holds.split, length-append (open_record body) holds.rest, length-take 256 (drop (place_of read.cells) content), length-append (frame body) holds.rest)
