use Rattle.std.proofs.Common.{◌≡◌, rules}
use Rattle.session.proofs.Spelled.{spells_ended}
use Rattle.session.proofs.reply.ended_line.Goals as goal

pub returns : goal.returns
returns c =
    let number : c.from.result ≡ 13 = search rules in
    spells_ended c.args.name.now 13 _ _ c.in_ok-text.ensures.named c.in_ok-text.ensures.begun (rw number at c.in_ok-end_with_number.ensures)
