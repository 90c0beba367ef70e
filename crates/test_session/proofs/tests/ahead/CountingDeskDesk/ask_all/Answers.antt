use Rattle.std.proofs.Common.{◌≡◌, List, [], ◌∷◌, refl, rules}
use Rattle.session.specs.declared.sent.Sent.{Sent}
use Rattle.session.specs.Exchange.{Exchange}
use Rattle.session.specs.Replies.{Asks}
use Rattle.session.specs.Ahead.{commands_of, exchanges_of}
use Rattle.test_session.proofs.tests.ahead.CountingDeskDesk.ask_all.Goals as goal

-- where nothing is promised of what passes, anything that passes leads anywhere
anything_passes : {D : Type 0} (old new : D) (first : Exchange) (others : List Exchange) → Asks (λ (_ : D) (_ : Exchange) (_ : D). Unit {0}) old (first ∷ others) new
anything_passes old new first [] = (new, tt, refl)
anything_passes old new first (second ∷ others) = (new, tt, anything_passes new new second others)

all_pass : {D : Type 0} (old new : D) (list : List Exchange) → (list ≡ [] → ⊥) → Asks (λ (_ : D) (_ : Exchange) (_ : D). Unit {0}) old list new
all_pass old new [] some = absurd (some refl)
all_pass old new (first ∷ others) some = anything_passes old new first others

-- as many pass as were sent
some_pass : (old new : List Sent) → commands_of new ≡ commands_of old → (old ≡ [] → ⊥) → exchanges_of new ≡ [] → ⊥
some_pass [] new same some empty = some refl
some_pass (first ∷ old) [] same some empty = absurd cc
some_pass (first ∷ old) (one ∷ new) same some empty = absurd cc

pub returns-clause-answered : goal.returns-clause-answered
returns-clause-answered c =
    let sent : c.args.sent.now.items ≡ [] → ⊥ = search rules in
    all_pass _ _ (exchanges_of c.ask_all.new.sent.items) (some_pass c.args.sent.now.items c.ask_all.new.sent.items c.ask_all.ensures.commands sent)
