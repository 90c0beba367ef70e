use Rattle.session.proofs.Spelled.{spells_unsubscribed}
use Rattle.session.proofs.reply.unsubscribed_reply.Goals as goal

pub returns : goal.returns
returns c =
    spells_unsubscribed c.args.name.now _ _ c.in_ok-text.ensures.named c.in_ok-text.ensures.begun c.in_ok-push_str.ensures.bytes
