use Rattle.std.proofs.Common.{◌≡◌, ◌∙◌, ◌+◌, ◌++◌, [], ◌∷◌, List, length, sym, ap, arith, append_assoc}
use Rattle.std.proofs.lemmas.List.{map-append}
use Rattle.std.specs.Prelude.{map, vec_items}
use Rattle.std.specs.Vec.Iter.{into_iter_items}
use Rattle.sockets.specs.declared.raw.Visit.{Visit}
use Rattle.sockets.specs.declared.raw.visits.Visits.{Visits}
use Rattle.sockets.specs.Attendance.{count_all, lists_of}
use Rattle.sockets.proofs.desks.part_all.Goals as goal

-- one more at the end of a list, by a function of each
mapped : {A B : Type 0} (f : A → B) (front : List A) (all : List B) (one : A) (more : List B) → all ≡ map f front → more ≡ all ++ f one ∷ []
    → more ≡ map f (front ++ one ∷ [])
mapped f front all one more so_far added = added ∙ (ap (λ l. l ++ f one ∷ []) so_far ∙ sym (map-append f front (one ∷ [])))

-- the count of visits, with one list more
counted : (front : List (List Visit)) (one : List Visit) → count_all (front ++ one ∷ []) ≡ count_all front + length one
counted [] one = omega arith
counted (first ∷ front) one = let rest = counted front one in omega (arith, rest)

pub loop-attendant-preserved : goal.loop-attendant-preserved
loop-attendant-preserved g c =
    let at = c.loop-attendant in
    let one = c.in-Some.attendant in
    let steps = c.in-Some.ensures.steps in
    let rest : into_iter_items at.attendant-iterator ≡ one ∷ into_iter_items c.next.new.self = steps.0 in
    let visits : lists_of (vec_items c.push-in-loop-attendant.new.self) ≡ lists_of (vec_items at.seats.visits) ++ one.guests.visits.list ∷ [] =
    ap lists_of c.in-Ok-push.ensures.items ∙ (map-append (λ (v : Visits). v.list) (vec_items at.seats.visits) (c.account_for.result ∷ [])
    ∙ ap (λ (v : Visits). lists_of (vec_items at.seats.visits) ++ v.list ∷ []) c.account_for.ensures.visits) in
    record {
      desks = mapped _ at.yielded (vec_items at.seats.desks) one (vec_items c.push.new.self) at.invariant.desks c.in-Ok.ensures.items;
      visits = mapped _ at.yielded (lists_of (vec_items at.seats.visits)) one (lists_of (vec_items c.push-in-loop-attendant.new.self)) at.invariant.visits visits;
      taken = c.account_for.ensures.taken ∙ at.invariant.taken;
      accounted =
          let more = ap count_all visits ∙ counted (lists_of (vec_items at.seats.visits)) one.guests.visits.list in
          omega (arith, more, c.account_for.ensures.accounted, at.invariant.accounted);
      others = append_assoc at.yielded (one ∷ []) (into_iter_items c.next.new.self) ∙ (ap (λ l. at.yielded ++ l) (sym rest) ∙ at.invariant.others);
      count = let left = ap length rest in omega (arith, at.invariant.count, left, steps.1);
      room = (
        omega (arith, at.invariant.room.0, c.in-Ok.ensures.len, c.push.ensures.capacity, steps.1),
        omega (arith, at.invariant.room.1, c.in-Ok-push.ensures.len, c.push-in-loop-attendant.ensures.capacity, steps.1),
      );
    }
