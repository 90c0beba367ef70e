use Rattle.std.proofs.Common.{◌≡◌, rules}
use Rattle.hub.proofs.Settling.{comes_next}
use Rattle.hub.proofs.locked.Locked.settle.Goals as goal

-- what comes next for the writer comes next for the board
pub settle_next-requires : goal.settle_next-requires
settle_next-requires g c =
    let settled : c.args.writer.now.settled ≡ c.self.inside.board.progress.settled = search rules in
    let taken : c.args.writer.now.taken ≡ c.self.inside.board.progress.taken = search rules in
    record { next = comes_next c.self.inside.board.progress c.args.writer.now c.args.receipt.now.batch c.args.told c.requires.next settled taken }
