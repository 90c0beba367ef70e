use Rattle.std.proofs.Common.{◌≡◌, ◌∙◌, ◌++◌, [], ◌∷◌, length, sym, ap, subst, arith, append_assoc}
use Rattle.std.specs.Prelude.{vec_items}
use Rattle.std.specs.Vec.Iter.{into_iter_items}
use Rattle.sockets.specs.Begun.{AreBegun}
use Rattle.sockets.proofs.Ended.{one_more_begun}
use Rattle.sockets.proofs.threads.begin_all.Goals as goal

pub loop-desk-preserved : goal.loop-desk-preserved
loop-desk-preserved g c =
    let at = c.loop-desk in
    let steps = c.in-Some.ensures.steps in
    let rest : into_iter_items at.desk-iterator ≡ c.in-Some.desk ∷ into_iter_items c.next.new.self = steps.0 in
    let pushed : vec_items c.push.new.self ≡ vec_items at.begun ++ c.begin.result ∷ [] = c.in-Ok.ensures.items in
    record {
      begun = subst (λ l. AreBegun g.K.Desk.does c.args.hall.now.ended.id (at.yielded ++ c.in-Some.desk ∷ []) l) (sym pushed)
          (one_more_begun g.K.Desk.does c.args.hall.now.ended.id at.yielded (vec_items at.begun) c.in-Some.desk c.begin.result at.invariant.begun c.begin.ensures);
      others = append_assoc at.yielded (c.in-Some.desk ∷ []) (into_iter_items c.next.new.self) ∙ (ap (λ l. at.yielded ++ l) (sym rest) ∙ at.invariant.others);
      count = let left = ap length rest in omega (arith, at.invariant.count, left, steps.1);
      room = omega (arith, at.invariant.room, c.in-Ok.ensures.len, c.push.ensures.capacity, steps.1);
    }
