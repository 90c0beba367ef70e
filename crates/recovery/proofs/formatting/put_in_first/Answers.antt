use Rattle.std.proofs.Common.{◌+◌, ◌*◌, ◌≤◌, length, Some, subst, sym}
use Rattle.std.specs.Prelude.{OnOk}
use Rattle.history.specs.Cell.{Pair}
use Rattle.milestone.specs.CellSpelling.{cell_body}
use Rattle.milestone.specs.OneCell.{HoldsPair}
use Rattle.recovery.proofs.Beginning.{fits_first}
use Rattle.recovery.proofs.formatting.put_in_first.Goals as goal

pub write_open-requires-clause-fits : goal.write_open-requires-clause-fits
write_open-requires-clause-fits g c =
    subst (λ n. 5 + length (cell_body c.args.number c.args.milestone.now) ≤ n) (sym c.from-size.ensures)
    (fits_first c.args.shape.now c.args.number c.args.milestone.now c.requires.in_range c.requires.is c.requires.keeps)

pub returns-clause-held : goal.returns-clause-held
returns-clause-held g c =
    let old = g.D.Disk.seen c.args.disk.now in
    let new = g.D.Disk.seen c.write_open.new.disk in
    let number = c.args.number in
    let cell = c.args.milestone.now in
    let size = c.args.shape.now.cell in
    subst (λ m. OnOk c.write_open.result ((pair : Pair) → HoldsPair (64 + m * (2 * size)) size number old pair
    → HoldsPair (64 + m * (2 * size)) size number new (Some cell, pair.1))) c.from.ensures
    (subst (λ n. OnOk c.write_open.result ((pair : Pair) → HoldsPair (64 + c.from.result * (2 * n)) n number old pair
    → HoldsPair (64 + c.from.result * (2 * n)) n number new (Some cell, pair.1))) c.from-size.ensures c.write_open.ensures.held)
