use Rattle.std.proofs.Common.{arith}
use Rattle.std.specs.Prelude.{vec_items}
use Rattle.sockets.proofs.Ended.{as_many_begun, all_attended}
use Rattle.sockets.proofs.desks.fn.serve_in.scope.Goals as goal

pub end_all-requires : goal.end_all-requires
end_all-requires g c =
    let desks = c.captures.desks in
    let begun = c.begin_all-begun.result in
    let room = c.requires.room.1 in
    (room.0, omega (arith, room.1, as_many_begun g.K.Desk.does _ (vec_items desks) (vec_items begun) c.begin_all-begun.ensures, desks.ok.0, begun.ok.0))

pub returns : goal.returns
returns g c = record {
  attended =
      all_attended g.K.Desk.does _ _ (λ by one kept. kept) (vec_items c.captures.desks) (vec_items c.begin_all-begun.result) (vec_items c.end_all.result)
      c.begin_all-begun.ensures c.end_all.ensures;
  counted = c.accept_all-has_failed.ensures.counted;
  accounted = c.accept_all-has_failed.ensures.accounted;
  failed = c.accept_all-has_failed.ensures.failed;
}
