use Rattle.std.proofs.Common.{◌≡◌, drop}
use Rattle.hub_desk.specs.Tickets.{last_of}
use Rattle.hub_desk.proofs.desk.last_ticket.Given as goal

abbrev pub invariant-loop-submitted : goal.invariant-loop-submitted
invariant-loop-submitted g l = last_of l.last (drop l.submitted-index l.tickets) ≡ last_of l.fn.first l.tickets
