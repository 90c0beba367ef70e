use Rattle.std.proofs.Common.{◌≡◌, [], ◌∷◌, ◌++◌, refl, sym, ap, ◌∙◌, subst, take, arith}
use Rattle.std.specs.Prelude.{option_to_list}
use Rattle.revision.specs.Acceptance.{answer}
use Rattle.world.specs.Event.{Submit}
use Rattle.world.specs.Progress.{submitted}
use Rattle.world.specs.World.{World, entry_of, takens}
use Rattle.world.specs.Step.{running_step}
use Rattle.world.specs.Stepping.{taken_of, AreStepped, world_of}
use Rattle.world.proofs.Steps.{stepped-submitted, submit-steps}
use Rattle.world.proofs.stepping.World.submit.Goals as goal

-- the order as it is kept has the entry that the board takes, if it takes one
order_is : (c : goal.After-add) → c.add.new.order.items ≡ c.self.inside.order.items ++ taken_of c.args.command.now (answer c.self.inside.board.state c.args.command.now)
order_is c =
    let added : c.add.new.order.items ≡ c.reserve-3.new.self.items ++ option_to_list c.in_ok-entry.entry = c.add.ensures in
    added
    ∙ (ap (λ o. o ++ option_to_list c.in_ok-entry.entry) c.reserve-3.ensures.items
    ∙ ap (λ e. c.self.inside.order.items ++ e) (c.in_ok-entry.ensures.ok
    ∙ ap (λ (w : World). taken_of c.args.command.now (answer w.board.state c.args.command.now)) (sym c.self.view_is)))

pub invariant_of-self-in-Ok : goal.invariant_of-self-in-Ok
invariant_of-self-in-Ok c =
    subst (λ b. AreStepped c.self.inside.limits b c.add.new.order.items c.self.inside.published c.self.inside.without c.self.inside.with_batch) (sym c.in-Ok.ensures.moves)
    (subst (λ o. AreStepped c.self.inside.limits (submitted (entry_of c.args.command.now) c.self.inside.board c.args.command.now) o c.self.inside.published c.self.inside.without c.self.inside.with_batch) (sym (order_is c))
    (stepped-submitted c.self.inside.limits c.self.inside.board c.self.inside.order.items c.self.inside.published c.self.inside.without c.self.inside.with_batch c.self.invariant
    c.args.command.now c.facts.ensures.first c.facts.ensures.last))

tickets_are : (c : goal.After-add) → c.push.new.self.items ≡ c.self.inside.tickets.items ++ c.in-Ok.ticket ∷ []
tickets_are c =
    let pushed : c.push.new.self.items ≡ c.reserve-2.new.self.items ++ c.in-Ok.ticket ∷ [] = c.in_ok-push-in-Ok.ensures.items in
    pushed ∙ ap (λ l. l ++ c.in-Ok.ticket ∷ []) c.reserve-2.ensures.items

sent_are : (c : goal.After-add) → c.push-in-Ok.new.self.items ≡ c.self.inside.sent.items ++ c.args.command.now ∷ []
sent_are c =
    let pushed : c.push-in-Ok.new.self.items ≡ c.reserve.new.self.items ++ c.in_ok-sent.sent ∷ [] = c.in_ok-push-in-Ok-2.ensures.items in
    pushed ∙ (ap (λ l. l ++ c.in_ok-sent.sent ∷ []) c.reserve.ensures.items ∙ ap (λ s. c.self.inside.sent.items ++ s ∷ []) c.in_ok-sent.ensures.ok)

pub returns-in_ok-push-in-Ok-2-clause-ok : goal.returns-in_ok-push-in-Ok-2-clause-ok
returns-in_ok-push-in-Ok-2-clause-ok c =
    (λ i. record (world_of c.self.inside) {
      board = c.in-Ok.ensures.moves i;
      published = takens (take c.self.inside.published (c.in-Ok.ensures.moves i).order);
      tickets = tickets_are c i;
      sent = sent_are c i;
    })
    ∙ (submit-steps (world_of c.self.inside) c.args.command.now c.facts.ensures.first
    c.facts.ensures.last c.self.inside.published c.in-Ok.ticket
    (omega (arith, c.self.invariant.shown_taken, c.self.invariant.taken_long)) refl c.in-Ok.ensures.ticket
    ∙ ap (λ (w : World). running_step w (Submit c.args.command.now)) c.self.view_is)
