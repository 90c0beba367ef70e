use Rattle.std.proofs.Common.{◌≡◌, ◌∙◌, List, [], ◌∷◌, ◌++◌, length, ap, rules}
use Rattle.world.specs.Progress.{Ticket}
use Rattle.lives.proofs.Submitting.{counts_given, gives_ticket, step_given}
use Rattle.lives.proofs.driving.submit_one.Goals as goal

pub returns-in_ok-push-in-Ok-clause-gives : goal.returns-in_ok-push-in-Ok-clause-gives
returns-in_ok-push-in-Ok-clause-gives g c = λ cap store.
    let place : c.len-at.result ≡ length c.args.tickets.now.items = search rules in
    let more : c.push.new.self.items ≡ c.args.tickets.now.items ++ c.in-Ok.ticket ∷ [] =
    c.in_ok-push-in-Ok.ensures.items ∙ ap (λ (l : List Ticket). l ++ c.in-Ok.ticket ∷ []) c.in_ok-reserve.ensures.items in
    gives_ticket g.L.Life.start c.args.board.now c.submit.new.self c.args.command.now c.requires.works store c.args.tickets.now.items c.push.new.self.items c.in-Ok.ticket c.len-at.result
    c.in-Ok.ensures.submitted place more

pub returns-in_ok-push-in-Ok-clause-step : goal.returns-in_ok-push-in-Ok-clause-step
returns-in_ok-push-in-Ok-clause-step g c =
    step_given g.L.Life.start c.args.board.now c.submit.new.self c.args.command.now c.requires.works c.in-Ok.ticket c.in-Ok.ensures.submitted

pub returns-in_ok-push-in-Ok-clause-counts : goal.returns-in_ok-push-in-Ok-clause-counts
returns-in_ok-push-in-Ok-clause-counts g c =
    counts_given g.L.Life.start c.args.board.now c.submit.new.self c.args.command.now c.requires.works c.args.seat.now c.submit.new.seat c.in-Ok.ticket c.in-Ok.ensures.submitted c.in-Ok.ensures.counts
