use Rattle.std.proofs.Common.{◌≡◌, ◌∙◌, Vec, List, [], ◌∷◌, ◌++◌, false, length, sym, ap, subst, arith, append_assoc}
use Rattle.std.specs.declared.alloc.Global.{Global}
use Rattle.std.specs.Vec.Iter.{into_iter_items}
use Rattle.std.proofs.lemmas.List.{length-map}
use Rattle.std.proofs.lemmas.Result.{err_from_is_err_and}
use Rattle.revision.specs.Command.{Taken}
use Rattle.recovery.specs.steps.Reading.{lists_of, are_below}
use Rattle.recovery.proofs.Gathering.{added-more, not-below}
use Rattle.recovery.proofs.reading.entries.add_batch.Goals as goal

abbrev commands_in : Vec Taken Global → List Taken
commands_in v = v.items

pub returns-in_err-add_one-clause-damaged : goal.returns-in_err-add_one-clause-damaged
returns-in_err-add_one-clause-damaged c =
    let p = err_from_is_err_and c.from_residual.result c.from_residual.ensures.1 in
    let at = c.loop-taken in
    let steps : into_iter_items at.taken-iterator ≡ c.in-Some.taken ∷ into_iter_items c.next.new.self = c.in-Some.ensures.steps.0 in
    let all : at.yielded ++ c.in-Some.taken ∷ into_iter_items c.next.new.self ≡ c.args.batch.items =
    ap (λ (l : List Taken). at.yielded ++ l) (sym steps) ∙ at.invariant.others in
    let count = at.invariant.added.count in
    let one = length-map at.lists commands_in in
    let other = length-map c.args.lists.now commands_in in
    rw p.1 (λ is.
    let high = c.in_err-add_one.ensures.damaged (sym p.2 ∙ is) in
    subst (λ (l : List Taken). are_below (length c.args.lists.now) l ≡ false) all
    (not-below (length c.args.lists.now) at.yielded c.in-Some.taken (into_iter_items c.next.new.self) (omega (arith, high, count, one, other))))

pub loop-taken-preserved : goal.loop-taken-preserved
loop-taken-preserved c =
    let at = c.loop-taken in
    let steps = c.in-Some.ensures.steps in
    let rest : into_iter_items at.taken-iterator ≡ c.in-Some.taken ∷ into_iter_items c.next.new.self = steps.0 in
    let low = c.in_ok-add_one.ensures.below in
    let one = length-map at.lists commands_in in
    record {
      added = added-more at.yielded c.in-Some.taken (lists_of c.args.lists.now) (lists_of at.lists) (lists_of c.add_one.new.lists) at.invariant.added
          (omega (arith, low, one)) c.in_ok-add_one.ensures.added;
      others = append_assoc at.yielded (c.in-Some.taken ∷ []) (into_iter_items c.next.new.self) ∙ (ap (λ (l : List Taken). at.yielded ++ l) (sym rest) ∙ at.invariant.others);
      count = grind arith;
    }
