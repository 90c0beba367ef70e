use Rattle.std.proofs.Common.{◌≡◌, sym, subst, arith}
use Rattle.std.specs.Prelude.{map, vec_items, vec_len}
use Rattle.sockets.specs.Desks.{HaveServed}
use Rattle.sockets.proofs.Ended.{as_many_attended, served_apart}
use Rattle.sockets.proofs.desks.serve_counted.Goals as goal

pub end-requires-clause-room : goal.end-requires-clause-room
end-requires-clause-room g c =
    let desks = c.args.desks in
    let served = c.serve_in-held.result.attendants in
    let same : vec_len served ≡ vec_len desks =
    let counted = as_many_attended g.K.Desk.does _ (vec_items desks) (vec_items served) c.serve_in-held.ensures.attended in
    omega (arith, counted, desks.ok.0, served.ok.0) in
    let room = c.in-Ok.ensures.seats in
    let len = c.len.ensures in (
      (room.0.0, omega (arith, room.0.1, same, len)),
      (room.1.0, omega (arith, room.1.1, same, len)),
    )

pub returns-in-Ok-clause-served : goal.returns-in-Ok-clause-served
returns-in-Ok-clause-served g c =
    let hall = c.in-Ok.room.hall.ended.id in
    let served = vec_items c.serve_in-held.result.attendants in
    let apart = served_apart g.K.Desk.does hall (vec_items c.args.desks) served c.serve_in-held.ensures.attended in (
      hall,
      subst (λ v. HaveServed g.K.Desk.does hall (vec_items c.args.desks) v c.end.result.desks.items) (sym c.end.ensures.visits)
          (subst (λ d. HaveServed g.K.Desk.does hall (vec_items c.args.desks) (map (λ one. one.guests.visits.list) served) d) (sym c.end.ensures.desks) apart),
    )
