use Rattle.std.proofs.Common.{◌≡◌, ◌+◌, ◌*◌, subst}
use Rattle.std.specs.Prelude.{IfErr}
use Rattle.refusal.specs.declared.Refusal.TheVariants.{Damaged}
use Rattle.history.specs.Cell.{Pair}
use Rattle.milestone.specs.OneCell.{HoldsPairIn}
use Rattle.recovery.proofs.reading.documents.read_cells.Goals as goal

pub returns-clause-damaged : goal.returns-clause-damaged
returns-clause-damaged g c =
    let content = g.D.Disk.seen c.args.disk.now in
    let number = c.args.number in
    subst (λ m. IfErr c.read_both.result (λ e. e ≡ Damaged → g.D.Disk.honest c.read_both.new.disk → (pair : Pair)
    → ¬ HoldsPairIn c.args.format (64 + m * (2 * c.args.shape.now.cell)) c.args.shape.now.cell number content pair)) c.from.ensures
    (subst (λ n. IfErr c.read_both.result (λ e. e ≡ Damaged → g.D.Disk.honest c.read_both.new.disk → (pair : Pair)
    → ¬ HoldsPairIn c.args.format (64 + c.from.result * (2 * n)) n number content pair)) c.from-size.ensures c.read_both.ensures.damaged)
