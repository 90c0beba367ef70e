use Rattle.std.proofs.Common.{◌∙◌}
use Rattle.hub.proofs.Histories.{submitted_goes_on}
use Rattle.hub.proofs.Making.{as_before}
use Rattle.hub.proofs.Placing.{was_submitted}
use Rattle.revision.specs.Planned.{reply_of}
use Rattle.std.specs.Prelude.{Ok}
use Rattle.std.proofs.lemmas.Option.{IfSome_then}
use Rattle.hub.proofs.MovedAhead.{moved_on_board}
use Rattle.hub.proofs.board.Board.submit.Goals as goal

pub keep_made-requires-clause-given : goal.keep_made-requires-clause-given
keep_made-requires-clause-given g c =
    was_submitted g.L.Life.start c.moved_in-moved.new.order c.self.inside.progress c.args.command.now c.in-Ok.ticket c.submit.new.self (c.moved_in-moved.ensures.same ∙ c.self.invariant.5)
    c.self.invariant.2 c.self.invariant.0 c.self.invariant.1.taken c.in-Ok.ensures.moves c.in-Ok.ensures.ticket
    (c.facts.ensures.first, c.facts.ensures.last)

pub keep_made-requires-clause-made : goal.keep_made-requires-clause-made
keep_made-requires-clause-made g c =
    as_before g.L.Life.start c.self.inside.progress c.submit.new.self c.moved_in-moved.new.order c.args.command.now c.self.inside.made.items (c.moved_in-moved.ensures.same ∙ c.self.invariant.5)
    c.in-Ok.ensures.moves c.self.invariant.7

pub order_taken-requires : goal.order_taken-requires
order_taken-requires g c =
    was_submitted g.L.Life.start c.moved_in-moved.new.order c.self.inside.progress c.args.command.now c.in-Ok.ticket c.submit.new.self (c.moved_in-moved.ensures.same ∙ c.self.invariant.5)
    c.self.invariant.2 c.self.invariant.0 c.self.invariant.1.taken c.in-Ok.ensures.moves c.in-Ok.ensures.ticket
    (c.facts.ensures.first, c.facts.ensures.last)

pub invariant_of-self : goal.invariant_of-self
invariant_of-self g c =
    let held = submitted_goes_on c.self.inside.progress c.args.command.now c.submit.new.self c.self.inside.told g.L.Life.start c.self.inside.seats.total
    c.count.new.seats.total (reply_of (Ok c.reply.result)) c.in-Ok.ticket c.in-Ok.ensures.moves c.in-Ok.ensures.ticket c.reply.ensures
    (c.facts.ensures.first, c.facts.ensures.last) c.self.invariant.0 c.self.invariant.1 c.self.invariant.2 c.self.invariant.3 c.count.ensures.total in
    (held.0, held.1, held.2, held.3, c.self.invariant.4, c.order_taken.ensures.order, c.self.invariant.6, c.keep_made.ensures)

pub submit-requires : goal.submit-requires
submit-requires g c = record {
  moved = IfSome_then c.moved_in-moved.result c.moved_in-moved.ensures.moved
      (λ m is. moved_on_board g.L.Life.start c.self.inside.progress c.self.inside.order m.now c.self.invariant.5 c.self.invariant.2 c.self.invariant.0 is);
}
