use Rattle.std.proofs.Common.{ap₂, ◌∙◌}
use Rattle.session.specs.Reply.{acknowledgement, line_of}
use Rattle.session.proofs.Spelled.{spells_acknowledgement}
use Rattle.session.proofs.reply.acknowledgement.Goals as goal

pub returns : goal.returns
returns c =
    spells_acknowledgement c.name.result.now _ c.number.result _ c.args.reply _ _ _ _ c.in_ok-text.ensures.named c.kind.ensures c.rev.ensures
    c.in_ok-text.ensures.begun c.in_ok-push_number.ensures c.in_ok-push_word.ensures c.in_ok-end_with_number.ensures
    ∙ ap₂ (λ doc n. line_of (acknowledgement doc n c.args.reply)) c.name.ensures c.number.ensures.number
