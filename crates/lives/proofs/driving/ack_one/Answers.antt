use Rattle.std.proofs.Common.{◌≡◌, ◌<◌, Option, Some, length, subst, sym, refl, arith}
use Rattle.std.specs.Prelude.{slice_get}
use Rattle.std.proofs.lemmas.Bool.Decides.{nat_tests}
use Rattle.std.proofs.lemmas.Option.{slice_get_read}
use Rattle.world.specs.Progress.{Ticket}
use Rattle.lives.specs.Driving.{AckGives}
use Rattle.lives.proofs.Submitting.{acks}
use Rattle.lives.proofs.driving.ack_one.Goals as goal

pub returns-in-Ok : goal.returns-in-Ok
returns-in-Ok g c =
    let there = c.in-Some.ensures.lookup.0 in
    let within : c.args.at < length c.args.tickets.now = grind (arith, nat_tests) in
    let is : slice_get c.args.tickets.now c.args.at ≡ Some c.in-Some.ticket.now =
    slice_get_read c.args.tickets.now (length c.args.tickets.now) c.args.at c.in-Some.ticket.now refl within c.in-Some.ensures.lookup.1 in
    subst (λ (t : Option Ticket). AckGives c.args.board.now t c.in-Ok.told) (sym is)
    (acks g.L.Life.start c.args.board.now c.in-Some.ticket.now c.in-Ok.told c.requires.works c.in-Ok.ensures.answer c.in-Ok.ensures.stands)
