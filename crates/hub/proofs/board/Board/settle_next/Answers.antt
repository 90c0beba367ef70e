use Rattle.std.proofs.Common.{◌≡◌, List, true, refl, rules, sym, subst}
use mathlib.Core.List.{IsPrefix}
use Rattle.recovery.specs.Found.{commands_of}
use Rattle.world.specs.World.{Entry, takens}
use Rattle.hub.specs.Legal.{Board}
use Rattle.hub.specs.Runs.{ComesNext, counts_of}
use Rattle.hub.proofs.Settling.{may_settle}
use Rattle.hub.proofs.board.Board.settle_next.Goals as goal

-- what comes next may be settled
pub unreachable-requires : goal.unreachable-requires
unreachable-requires g c =
    let board = c.self.inside.progress in
    let next = subst (λ (b : Board). ComesNext (counts_of b.progress) c.args.receipt.now.batch c.args.told) (sym c.self.view_is) c.requires.next in
    let ordered : c.self.inside.order ≡ board.order = search rules in
    let begins = subst (λ (order : List Entry). IsPrefix (commands_of c.args.told) (takens order)) ordered c.covers.ensures.begins in
    let may = (may_settle board (counts_of board) c.args.receipt.now.batch c.args.told next refl refl begins).count in
    let settles : c.settle.result ≡ true = search rules in
    search rules
