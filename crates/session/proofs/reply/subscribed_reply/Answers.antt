use Rattle.session.proofs.Spelled.{spells_subscribed}
use Rattle.session.proofs.reply.subscribed_reply.Goals as goal

pub returns : goal.returns
returns c =
    spells_subscribed c.args.name.now c.args.rev _ _ c.in_ok-text.ensures.named c.in_ok-text.ensures.begun c.in_ok-end_with_number.ensures
