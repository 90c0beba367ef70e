use Rattle.std.proofs.Common.{◌≡◌, ◌<◌, ◌+◌, ◌++◌, ℕ, List, [], ◌∷◌, length, take, get_or, sym, ◌∙◌, ap, subst}
use Rattle.std.proofs.lemmas.List.{take_all, take_more}
use Rattle.lives.specs.declared.calls.Call.{Call}
use Rattle.lives.specs.Schedule.{IsNumbered, AreNumbered}
use Rattle.lives.proofs.laws.are_numbered.Goals as goal

one_more : (calls : List Call) (call : Call) → AreNumbered calls → IsNumbered call → AreNumbered (calls ++ call ∷ [])
one_more [] call before last = (last, tt)
one_more (first ∷ others) call before last = (before.0, one_more others call before.1 last)

next : (calls : List Call) (at : ℕ) (call d : Call) → at < length calls → call ≡ get_or calls at d → AreNumbered (take at calls) → IsNumbered call → AreNumbered (take (at + 1) calls)
next calls at call d inside is before last =
    subst AreNumbered (ap (λ (c : Call). take at calls ++ c ∷ []) is ∙ sym (take_more calls at d inside)) (one_more (take at calls) call before last)

pub loop-call-init : goal.loop-call-init
loop-call-init c = tt

pub loop-call-preserved : goal.loop-call-preserved
loop-call-preserved c = next c.args.calls.now c.loop-call.call-index c.call-item.result _ c.loop-call-test.true c.call-item.is c.loop-call.invariant c.is_numbered.ensures

pub returns : goal.returns
returns c = subst AreNumbered (take_all c.loop-call.call-index c.args.calls.now c.loop-call-test.false) c.loop-call.invariant
