use Rattle.std.proofs.Common.{◌≡◌, ◌∙◌, ◌+◌, [], false, length, ap}
use Rattle.std.specs.Vec.Iter.{into_iter_items}
use Rattle.server_threads.specs.Answers.{first_desk}
use Rattle.server_threads.proofs.Tallied.{next_seat, one_desk_more, seat_with_desk, seat_tallied, none_counted}
use Rattle.server_threads.proofs.desks.desks_at.Goals as goal

-- a seat with a viewer has its desk
pub loop-seat-preserved-in-Continue-1 : goal.loop-seat-preserved-in-Continue-1
loop-seat-preserved-in-Continue-1 g c =
    let at = c.loop-seat in
    let i = at.invariant in
    let left = into_iter_items at.seat-iterator in
    let rest = into_iter_items c.next.new.self in
    let seat = next_seat left rest c.in-Some.seat c.in-Some.ensures.steps.0 i.new in
    let viewer : c.in-Some-viewer.viewer ≡ [] = c.in-Some-viewer.ensures ∙ c.requires.told in
    let first : c.new.result ≡ first_desk =
    c.new.ensures ∙ (ap (λ t. record { told = t; shown = t; counted = c.in-Some.seat; stopped = false; found = [] }) viewer
    ∙ ap (λ n. record { told = []; shown = []; counted = n; stopped = false; found = [] }) seat.0) in
    record {
      new = seat.1;
      first = one_desk_more at.desks.items c.push.new.self.items c.new.result c.in_ok-push-in-Some-viewer.ensures.items first i.first;
      all = seat_with_desk at.desks.items c.push.new.self.items c.new.result left rest c.in-Some.seat at.tally.seats (length c.args.seats.items + c.args.tally.now.seats)
          c.in_ok-push-in-Some-viewer.ensures.items c.in-Some.ensures.steps.0 i.all;
      none = i.none;
    }

-- one without is tallied
pub loop-seat-preserved : goal.loop-seat-preserved
loop-seat-preserved g c =
    let at = c.loop-seat in
    let i = at.invariant in
    let left = into_iter_items at.seat-iterator in
    let rest = into_iter_items c.next.new.self in
    let seat = next_seat left rest c.in-Some.seat c.in-Some.ensures.steps.0 i.new in
    record {
      new = seat.1;
      first = i.first;
      all = seat_tallied at.desks.items left rest c.in-Some.seat at.tally.seats c.add.new.self.seats (length c.args.seats.items + c.args.tally.now.seats)
          (ap (λ t. t.seats) c.add.ensures) c.in-Some.ensures.steps.0 i.all;
      none = none_counted at.tally.counted c.add.new.self.counted c.in-Some.seat c.args.tally.now.counted (ap (λ t. t.counted) c.add.ensures) seat.0 i.none;
    }
