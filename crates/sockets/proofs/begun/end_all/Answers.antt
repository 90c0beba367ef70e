use Rattle.std.proofs.Common.{◌≡◌, ◌∙◌, ◌++◌, [], ◌∷◌, length, sym, ap, subst, arith, append_assoc}
use Rattle.std.specs.Prelude.{vec_items}
use Rattle.std.specs.Vec.Iter.{into_iter_items}
use Rattle.sockets.specs.Begun.{EndAs}
use Rattle.sockets.proofs.Ended.{one_more_ended}
use Rattle.sockets.proofs.begun.end_all.Goals as goal

pub loop-one-preserved : goal.loop-one-preserved
loop-one-preserved g c =
    let at = c.loop-one in
    let steps = c.in-Some.ensures.steps in
    let rest : into_iter_items at.one-iterator ≡ c.in-Some.one ∷ into_iter_items c.next.new.self = steps.0 in
    let pushed : vec_items c.push.new.self ≡ vec_items at.ended ++ c.end.result ∷ [] = c.in-Ok.ensures.items in
    record {
      ended = subst (λ l. EndAs g.P.Promise (at.yielded ++ c.in-Some.one ∷ []) l) (sym pushed)
          (one_more_ended g.P.Promise at.yielded (vec_items at.ended) c.in-Some.one c.end.result at.invariant.ended c.end.ensures);
      others = append_assoc at.yielded (c.in-Some.one ∷ []) (into_iter_items c.next.new.self) ∙ (ap (λ l. at.yielded ++ l) (sym rest) ∙ at.invariant.others);
      count = let left = ap length rest in omega (arith, at.invariant.count, left, steps.1);
      room = omega (arith, at.invariant.room, c.in-Ok.ensures.len, c.push.ensures.capacity, steps.1);
    }
